use Rattle.lanczos_steps.specs.StartVector.{started}
use Rattle.lanczos_steps.proofs.start_vector.first.Goals as goal

pub returns-then-by : goal.returns-then-by
unfolding started
returns-then-by c = rw (c.if-by.true, ← c.requires, ← c.copy_from_slice.ensures.after) c.over.ensures

pub returns-else-by : goal.returns-else-by
unfolding started
returns-else-by c = rw c.if-by.false c.level.ensures
