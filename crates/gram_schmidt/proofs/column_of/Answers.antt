use native.Mathlib.Omega.{arith}
use Rattle.grid.specs.TableLaws.{table_none, table_more, table_done}
use Rattle.gram_schmidt.proofs.column_of.Goals as goal

pub loop-row-init : goal.loop-row-init
loop-row-init c = table_none _

pub loop-row-preserved : goal.loop-row-preserved
loop-row-preserved c = (table_more _ c.loop-row.c c.loop-row.row (omega arith) c.loop-row.invariant c.entry.ensures)

pub returns : goal.returns
returns c = table_done _ c.loop-row.c (omega arith) (omega arith) (omega arith) c.loop-row.invariant
