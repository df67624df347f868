use borrow.Author.Tests.{lt-ltb, le-ltb}
use Rattle.answers.specs.Answers.{least}
use Rattle.answers.proofs.least.Goals as goal

pub returns-then-m-n : goal.returns-then-m-n
unfolding least
returns-then-m-n c = rw (lt-ltb _ _ c.if-m-n.true)

pub returns-else-m-n : goal.returns-else-m-n
unfolding least
returns-else-m-n c = rw (le-ltb _ _ c.if-m-n.false)
