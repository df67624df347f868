use Rattle.eigen_steps.specs.ArraysLaws.{set_out}
use Rattle.eigen_steps.proofs.arrays.set_out.Goals as goal

pub returns-then-is_none : goal.returns-then-is_none
unfolding set_out
returns-then-is_none c = rw (c.is_none.ensures, c.if-is_none.true, c.put_first.ensures)

pub returns-else-is_none : goal.returns-else-is_none
unfolding set_out
returns-else-is_none c = rw (c.is_none.ensures, c.if-is_none.false, c.fill.ensures, c.fill-else-is_none.ensures)
