use mathlib.Core.Path.{◌≡◌}
use mathlib.Core.Bool.{true, false}
use lib.Ieee.{lt}
use Rattle.grid.specs.Real.{zero64}
use Rattle.svd_jacobi_svd_tall.specs.SingularValues.{normal_step}
use Rattle.svd_jacobi_svd_tall.proofs.singular_values.normalise_column.Goals as goal

pub returns-then-norm : goal.returns-then-norm
unfolding normal_step
returns-then-norm c = let above : lt zero64 c.root-norm.result ≡ true = c.if-norm.true in rw (← c.norm_sq.ensures, ← c.root-norm.ensures.value, above) c.divide.ensures

pub returns-else-norm : goal.returns-else-norm
unfolding normal_step
returns-else-norm c = let not_above : lt zero64 c.root-norm.result ≡ false = c.if-norm.false in rw (← c.norm_sq.ensures, ← c.root-norm.ensures.value, not_above)
