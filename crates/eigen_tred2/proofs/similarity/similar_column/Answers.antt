use native.Mathlib.Omega.{arith}
use Rattle.grid.specs.LoopLaws.{start, next, done}
use Rattle.eigen_tred2_definition.specs.Tred2.{similar_column}
use Rattle.eigen_tred2.proofs.similarity.similar_column.Goals as goal

pub loop-k-init : goal.loop-k-init
loop-k-init c = start _ _ _

pub loop-k-preserved : goal.loop-k-preserved
loop-k-preserved c = next _ _ _ _ (omega arith) c.loop-k.invariant (rw (← c.at-x.ensures))

pub returns : goal.returns
unfolding similar_column
returns c = done _ _ _ (omega arith) (omega arith) c.loop-k.invariant
