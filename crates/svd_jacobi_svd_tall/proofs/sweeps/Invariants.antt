use mathlib.Core.Path.{◌≡◌}
use Prim.Native.Nat.{◌-◌}
use Rattle.grid.specs.Loop.{rounds}
use Rattle.svd_jacobi_svd_tall.specs.SweepLengths.{Sized}
use Rattle.svd_jacobi_svd_tall.specs.JacobiSvdTall.{going_after, swept, ended}
use Rattle.svd_jacobi_svd_tall.proofs.sweeps.Given as goal

abbrev pub invariant-loop-before : goal.invariant-loop-before
invariant-loop-before l =
    Sized l.rows l.cols l.w
    × (rounds (swept l.rows l.cols) ended (l.limit - l.before) (going_after l.before, l.w) ≡ rounds (swept l.rows l.cols) ended l.limit (going_after 0, l.initial.w))
