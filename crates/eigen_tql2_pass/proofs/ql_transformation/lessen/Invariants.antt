use mathlib.Core.Path.{◌≡◌}
use Prim.Native.Nat.{◌+◌, ◌≤◌}
use Rattle.grid.specs.Loop.{upto}
use Rattle.eigen_tql2_pass.specs.TransformSteps.{less_step}
use Rattle.eigen_tql2_pass.proofs.ql_transformation.lessen.Given as goal

abbrev pub invariant-loop-i : goal.invariant-loop-i
invariant-loop-i l = (l.l + 2 ≤ l.i) × (l.i ≤ l.n) × (l.d ≡ upto (less_step l.h) (l.l + 2) l.i l.initial.d)
