use mathlib.Core.Path.{◌≡◌}
use Rattle.grid.specs.Loop.{upto}
use Rattle.svd_jacobi_svd_tall.specs.SingularValues.{normal_step}
use Rattle.svd_jacobi_svd_tall.specs.SweepLengths.{Sized}
use Rattle.svd_jacobi_svd_tall.proofs.singular_values.normalise.Given as goal

abbrev pub invariant-loop-j : goal.invariant-loop-j
invariant-loop-j l = Sized l.rows l.cols l.w × (l.w ≡ upto (normal_step l.rows l.cols) 0 l.j l.initial.w)
