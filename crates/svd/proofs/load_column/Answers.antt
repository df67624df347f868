use native.Mathlib.Omega.{arith}
use Rattle.grid.specs.LoopLaws.{start, next, done}
use Rattle.svd.specs.LoadedLaws.{column_loaded}
use Rattle.svd.proofs.load_column.Goals as goal

pub loop-i-init : goal.loop-i-init
loop-i-init c = start _ _ _

pub loop-i-preserved : goal.loop-i-preserved
loop-i-preserved c = next _ _ _ _ (omega arith) c.loop-i.invariant (rw (← c.source.ensures))

pub returns : goal.returns
unfolding column_loaded
returns c = done _ _ _ (omega arith) (omega arith) c.loop-i.invariant
