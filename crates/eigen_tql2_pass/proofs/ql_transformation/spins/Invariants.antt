use mathlib.Core.Path.{◌≡◌}
use Prim.Native.Nat.{◌≤◌}
use Rattle.eigen_tql2_pass.specs.Transform.{spin}
use Rattle.grid.specs.Loop.{fall}
use Rattle.eigen_tql2_pass.proofs.ql_transformation.spins.Given as goal

abbrev pub invariant-loop-i : goal.invariant-loop-i
invariant-loop-i l = (l.l ≤ l.i) × (fall (spin l.n l.edition) l.l l.i (l.q, l.v, l.d, l.e) ≡ fall (spin l.n l.edition) l.l l.m (l.initial.q, l.initial.v, l.initial.d, l.initial.e))
