use mir.Syntax.{w64}
use mir.Facts.{to_z-of_z}
use Rattle.covariance.specs.WholeNumbers.{not_over}
use Rattle.covariance.proofs.whole_numbers.float_of.Goals as goal

pub int_to_float-result : goal.int_to_float-result
int_to_float-result c = rw (to_z-of_z {w = w64} c.ranges.z) (not_over _ c.requires)

pub returns : goal.returns
returns c = rw (to_z-of_z {w = w64} c.ranges.z)
