use mathlib.Core.Path.{◌∙◌}
use Rattle.answers.specs.Checks.{fitting_edition}
use Rattle.answers.proofs.LengthsLaws.{three_lengths}
use Rattle.std.proofs.Common.{ap, not}
use Rattle.answers.proofs.checks.fitting_edition.Goals as goal

pub returns-then-not-edition_good : goal.returns-then-not-edition_good
unfolding fitting_edition
returns-then-not-edition_good c = rw (← c.edition_good.ensures, (ap not c.if-not-edition_good.true))

pub returns : goal.returns
unfolding fitting_edition
returns c = rw (← c.edition_good.ensures, (ap not c.if-not-edition_good.false)) (c.lengths.ensures ∙ three_lengths _ _ _ _ _ _)
