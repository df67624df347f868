use Rattle.solve.specs.Solve.{looked}
use Rattle.solve.proofs.look.Goals as goal

pub returns-then-is_some : goal.returns-then-is_some
unfolding looked
returns-then-is_some c = rw (← c.first_bad-bad.ensures, ← c.is_some.ensures, c.if-is_some.true, ← c.marked.ensures) c.refuse.ensures

pub returns : goal.returns
unfolding looked
returns c = rw (← c.first_bad-bad.ensures, ← c.is_some.ensures, c.if-is_some.false, c.done.ensures)
