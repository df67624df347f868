use Rattle.eigen_steps.specs.ArraysLaws.{readied}
use Rattle.eigen_steps.proofs.prepare.prepare.Goals as goal

pub returns-then-is_none : goal.returns-then-is_none
unfolding readied
returns-then-is_none c = rw (← c.columns.ensures, ← c.tred2.ensures, ← c.mark0-found.ensures, c.is_none.ensures, c.if-is_none.true, ← c.move_up.ensures)

pub returns-else-is_none : goal.returns-else-is_none
unfolding readied
returns-else-is_none c = rw (← c.columns.ensures, ← c.tred2.ensures, ← c.mark0-found.ensures, c.is_none.ensures, c.if-is_none.false)
