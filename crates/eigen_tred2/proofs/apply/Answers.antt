use Rattle.eigen_tred2_definition.specs.Tred2.{apply}
use Rattle.eigen_tred2.proofs.apply.Goals as goal

pub returns-then-h : goal.returns-then-h
unfolding apply
returns-then-h c = rw (c.if-h.true, ← c.column_over.ensures, ← c.turn_columns.ensures)

pub returns-else-h : goal.returns-else-h
unfolding apply
returns-else-h c = rw c.if-h.false
