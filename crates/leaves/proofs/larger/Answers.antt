use Rattle.leaves.specs.Leaf.{larger}
use Rattle.leaves.proofs.larger.Goals as goal

pub returns-then-a-b : goal.returns-then-a-b
unfolding larger
returns-then-a-b c = rw c.if-a-b.true

pub returns-else-a-b : goal.returns-else-a-b
unfolding larger
returns-else-a-b c = rw c.if-a-b.false
