use mathlib.Core.Path.{◌≡◌}
use Prim.Native.Nat.{◌-◌, ◌≤◌}
use Rattle.grid.specs.Loop.{upto}
use Rattle.svd_jacobi_svd_tall.specs.Sweep.{pairs_of}
use Rattle.svd_jacobi_svd_tall.specs.SweepLengths.{Sized}
use Rattle.svd_jacobi_svd_tall.proofs.sweep.sweep.Given as goal

abbrev pub invariant-loop-e : goal.invariant-loop-e
invariant-loop-e l = (l.e - 1 ≤ l.cols) × Sized l.rows l.cols l.w × ((l.changed, l.w) ≡ upto (pairs_of l.rows l.cols) 0 (l.e - 1) (l.initial.changed, l.initial.w))
