use mathlib.Core.Path.{◌∙◌, ap}
use mir.Syntax.{w16, w64}
use mir.Val.{to_z, of_z}
use lib.IntN.{ℤ}
use mir.Facts.{to_z-of_z, sfits_widen}
use Rattle.covariance.specs.WholeNumbers.{of_i16}
use Rattle.covariance.proofs.sample_sums.wide.Goals as goal

pub overflow_cast-result : goal.overflow_cast-result
overflow_cast-result c = rw (to_z-of_z c.ranges.x) (sfits_widen tt c.ranges.x)

pub returns : goal.returns
returns c = (ap (λ (z : ℤ). to_z w64 (of_z w64 z)) (to_z-of_z {w = w16} c.ranges.x) ∙ to_z-of_z {w = w64} (sfits_widen tt c.ranges.x), of_i16 _ c.ranges.x)
