use borrow.Author.Tests.{lt-ltb, le-ltb}
use Rattle.eigen_tql2.specs.LStartEnd.{opened}
use Rattle.eigen_tql2.proofs.l_start_end.begin.Goals as goal

pub returns-then-l-m : goal.returns-then-l-m
unfolding opened
returns-then-l-m c = rw (← c.magnitude.ensures, ← c.magnitude-2.ensures, ← c.larger-tst1.ensures, ← c.split-m.ensures, lt-ltb _ _ c.if-l-m.true)

pub returns-else-l-m : goal.returns-else-l-m
unfolding opened
returns-else-l-m c = rw (← c.magnitude.ensures, ← c.magnitude-2.ensures, ← c.larger-tst1.ensures, ← c.split-m.ensures, le-ltb _ _ c.if-l-m.false)
