use mathlib.Core.Path.{◌≡◌}
use Rattle.grid.specs.Loop.{upto}
use Rattle.svd_jacobi_svd_tall.specs.SingularValuesSteps.{divide_step}
use Rattle.svd_jacobi_svd_tall.proofs.singular_values.divide.Given as goal

abbrev pub invariant-loop-i : goal.invariant-loop-i
invariant-loop-i l = l.w ≡ upto (divide_step l.a l.norm) 0 l.i l.initial.w
