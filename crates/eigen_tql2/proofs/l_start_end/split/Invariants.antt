use mathlib.Core.Path.{◌≡◌}
use Prim.Native.Nat.{◌-◌, ◌≤◌}
use Rattle.eigen_tql2_pass.specs.Pass.{tiny}
use Rattle.grid.specs.Loop.{first}
use Rattle.eigen_tql2.proofs.l_start_end.split.Given as goal

abbrev pub invariant-loop-m : goal.invariant-loop-m
invariant-loop-m l = (l.l ≤ l.m) × (first (tiny l.e l.tst1) l.m (l.n - 1) ≡ first (tiny l.e l.tst1) l.l (l.n - 1))
