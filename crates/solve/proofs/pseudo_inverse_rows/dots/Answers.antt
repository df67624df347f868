use native.Mathlib.Omega.{arith}
use Rattle.grid.specs.TableLaws.{table_none, table_more}
use Rattle.solve.proofs.pseudo_inverse_rows.dots.Goals as goal

pub loop-i-init : goal.loop-i-init
loop-i-init c = table_none _

pub loop-i-preserved : goal.loop-i-preserved
loop-i-preserved c = (table_more _ c.loop-i.x c.loop-i.i (omega arith) c.loop-i.invariant c.dot.ensures)
