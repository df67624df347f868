use Rattle.answers.specs.Checks.{edition_good}
use Rattle.answers.proofs.checks.edition_good.Goals as goal
use mathlib.Core.Path.{refl}

pub returns : goal.returns
unfolding edition_good
returns c = refl
