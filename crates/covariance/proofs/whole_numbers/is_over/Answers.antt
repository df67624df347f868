use mir.Syntax.{w64}
use mir.Facts.{to_z-of_z}
use Rattle.covariance.specs.WholeNumbers.{above, below}
use Rattle.covariance.proofs.whole_numbers.is_over.Goals as goal

pub returns-then-z-gt9007199254740992 : goal.returns-then-z-gt9007199254740992
returns-then-z-gt9007199254740992 c = above c.args.z (rw (to_z-of_z {w = w64} c.ranges.z) at c.if-z-gt9007199254740992.true)

pub returns : goal.returns
returns c = rw (to_z-of_z {w = w64} c.ranges.z) (below c.args.z (rw (to_z-of_z {w = w64} c.ranges.z) at c.if-z-gt9007199254740992.false))
