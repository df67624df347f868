use borrow.Author.Tests.{eq-eqb, ne_eqb}
use Rattle.eigen_symmetric_eigen.specs.ResultLaws.{laid}
use Rattle.eigen_symmetric_eigen.proofs.result.give.Goals as goal

pub returns-then-r-eq0 : goal.returns-then-r-eq0
unfolding laid
returns-then-r-eq0 c = rw (eq-eqb _ _ c.if-r-eq0.true, c.put_first.ensures, c.fill.ensures)

pub returns-else-r-eq0 : goal.returns-else-r-eq0
unfolding laid
returns-else-r-eq0 c = rw (ne_eqb _ _ c.if-r-eq0.false, c.fill-else-r-eq0.ensures, c.fill.ensures)
