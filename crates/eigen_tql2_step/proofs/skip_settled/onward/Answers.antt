use borrow.Author.Tests.{eq-eqb, ne_eqb}
use Rattle.eigen_tql2_step.proofs.skip_settled.onward.Goals as goal

pub returns-then-r-ne-GOING : goal.returns-then-r-ne-GOING
returns-then-r-ne-GOING c = rw (ne_eqb _ _ c.if-r-ne-GOING.true)

pub returns : goal.returns
returns c = rw (eq-eqb _ _ c.if-r-ne-GOING.false)
