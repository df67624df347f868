use Rattle.leaves.specs.Leaf.{hypot}
use Rattle.leaves.proofs.hypot.Goals as goal

pub returns-then-p-q : goal.returns-then-p-q
unfolding hypot
returns-then-p-q c = rw (← c.magnitude-p.ensures, ← c.magnitude-q.ensures, c.if-p-q.true) c.hypot_of.ensures

pub returns-else-p-q : goal.returns-else-p-q
unfolding hypot
returns-else-p-q c = rw (← c.magnitude-p.ensures, ← c.magnitude-q.ensures, c.if-p-q.false) c.hypot_of-else-p-q.ensures
