use borrow.Author.Tests.{eq-eqb, ne_eqb}
use Rattle.eigen_tql2_step.specs.SkipSettled.{found_l}
use Rattle.eigen_tql2_step.proofs.skip_settled.find.Goals as goal

pub returns-then-r-eq0 : goal.returns-then-r-eq0
unfolding found_l
returns-then-r-eq0 c = λ v. rw (eq-eqb _ _ c.if-r-eq0.true) (c.skip.ensures v)

pub returns-else-r-eq0 : goal.returns-else-r-eq0
unfolding found_l
returns-else-r-eq0 c = λ v. rw (ne_eqb _ _ c.if-r-eq0.false)
