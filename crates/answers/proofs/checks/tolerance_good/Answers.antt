use mathlib.Core.Path.{refl}
use lib.Ieee.{le}
use Rattle.answers.specs.Checks.{tolerance_good}
use Rattle.answers.proofs.checks.tolerance_good.Goals as goal

pub returns : goal.returns
unfolding le tolerance_good
returns c = refl
