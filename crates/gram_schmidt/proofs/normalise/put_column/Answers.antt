use native.Mathlib.Omega.{arith}
use Rattle.grid.specs.LoopLaws.{start, next, done}
use Rattle.gram_schmidt.specs.Unit.{put_column}
use Rattle.gram_schmidt.proofs.normalise.put_column.Goals as goal

pub loop-row-init : goal.loop-row-init
loop-row-init c = start _ _ _

pub loop-row-preserved : goal.loop-row-preserved
loop-row-preserved c = next _ _ _ _ (omega arith) c.loop-row.invariant (rw (← c.put_entry.ensures))

pub returns : goal.returns
unfolding put_column
returns c = done _ _ _ (omega arith) (omega arith) c.loop-row.invariant
