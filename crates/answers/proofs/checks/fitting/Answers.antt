use mathlib.Core.Path.{◌∙◌}
use Rattle.answers.specs.Checks.{fitting}
use Rattle.answers.proofs.LengthsLaws.{two_lengths}
use Rattle.std.proofs.Common.{ap, not}
use Rattle.answers.proofs.checks.fitting.Goals as goal

pub returns-then-not-tolerance_good : goal.returns-then-not-tolerance_good
unfolding fitting
returns-then-not-tolerance_good c = rw (← c.tolerance_good.ensures, (ap not c.if-not-tolerance_good.true))

pub returns : goal.returns
unfolding fitting
returns c = rw (← c.tolerance_good.ensures, (ap not c.if-not-tolerance_good.false)) (c.lengths.ensures ∙ two_lengths _ _ _ _)
