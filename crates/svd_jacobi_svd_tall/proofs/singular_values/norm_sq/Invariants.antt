use mathlib.Core.Path.{◌≡◌}
use Rattle.grid.specs.Loop.{upto}
use Rattle.svd_jacobi_svd_tall.specs.SingularValuesSteps.{norm_step}
use Rattle.grid.specs.Real.{zero64}
use Rattle.svd_jacobi_svd_tall.proofs.singular_values.norm_sq.Given as goal

abbrev pub invariant-loop-i : goal.invariant-loop-i
invariant-loop-i l = l.sum ≡ upto (norm_step l.a l.w) 0 l.i zero64
