use mathlib.Core.Path.{refl}
use Rattle.answers.specs.Checks.{limit_good}
use Rattle.answers.proofs.checks.limit_good.Goals as goal

pub returns : goal.returns
unfolding limit_good
returns c = refl
