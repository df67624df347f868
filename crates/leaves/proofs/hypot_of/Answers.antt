use Rattle.leaves.specs.Leaf.{hypot_of}
use Rattle.leaves.proofs.hypot_of.Goals as goal

pub returns-then-a : goal.returns-then-a
unfolding hypot_of
returns-then-a c = rw c.if-a.true

pub returns-else-a : goal.returns-else-a
unfolding hypot_of
returns-else-a c = rw (c.if-a.false, ← c.root.ensures.value)
