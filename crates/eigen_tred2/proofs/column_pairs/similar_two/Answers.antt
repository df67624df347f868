use native.Mathlib.Omega.{arith}
use Rattle.grid.specs.LoopLaws.{start, next, done}
use Rattle.eigen_tred2.specs.ColumnPairs.{two_columns}
use Rattle.eigen_tred2.proofs.column_pairs.similar_two.Goals as goal

pub loop-k-init : goal.loop-k-init
loop-k-init c = start _ _ _

pub loop-k-preserved : goal.loop-k-preserved
loop-k-preserved c = next _ _ _ _ (omega arith) c.loop-k.invariant (rw (c.at-y.ensures, c.at-x.ensures))

pub returns : goal.returns
unfolding two_columns
returns c = done _ _ _ (omega arith) (omega arith) c.loop-k.invariant
