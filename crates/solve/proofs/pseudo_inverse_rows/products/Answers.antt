use native.Mathlib.Omega.{arith}
use Rattle.grid.specs.TableLaws.{table_none, table_more}
use Rattle.solve.specs.Solution.{coefficient}
use Rattle.solve.specs.PseudoInverse.{inverse}
use Rattle.solve.proofs.pseudo_inverse_rows.products.Goals as goal

pub loop-k-init : goal.loop-k-init
loop-k-init c = table_none _

pub loop-k-preserved : goal.loop-k-preserved
unfolding inverse coefficient
loop-k-preserved c = (table_more _ c.loop-k.w c.loop-k.k (omega arith) c.loop-k.invariant (rw (← c.entry.ensures, ← c.coefficient.ensures)))
