use borrow.Author.Tests.{eq-eqb, ne_eqb}
use Rattle.answers.specs.Answers.{present}
use Rattle.answers.proofs.present.Goals as goal

pub returns-then-flag-eq0 : goal.returns-then-flag-eq0
unfolding present
returns-then-flag-eq0 c = rw (eq-eqb _ _ c.if-flag-eq0.true)

pub returns-else-flag-eq0 : goal.returns-else-flag-eq0
unfolding present
returns-else-flag-eq0 c = rw (ne_eqb _ _ c.if-flag-eq0.false)
