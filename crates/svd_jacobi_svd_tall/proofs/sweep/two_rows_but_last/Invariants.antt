use mathlib.Core.Path.{◌≡◌}
use Prim.Native.Nat.{◌+◌, ◌≤◌}
use mathlib.Core.Bool.{Bool}
use Rattle.grid.specs.Real.{Vec}
use Rattle.svd_jacobi_svd_tall.specs.Sweep.{pair_done}
use Rattle.svd_jacobi_svd_tall.specs.SweepLengths.{Sized}
use Rattle.svd_jacobi_svd_tall.proofs.sweep.TwoRows.{both_to}
use Rattle.svd_jacobi_svd_tall.proofs.sweep.two_rows_but_last.Given as goal

abbrev pub invariant-loop-q : goal.invariant-loop-q
invariant-loop-q l = (l.p + 3 ≤ l.q) × (l.q ≤ l.cols) × Sized l.rows l.cols l.w
    × ((x : Bool × Vec) → (l.initial.changed, l.initial.w) ≡ pair_done l.rows l.cols l.p (l.p + 2) (pair_done l.rows l.cols l.p (l.p + 1) x) → (l.changed, l.w) ≡ both_to l.rows l.cols l.p l.q x)
