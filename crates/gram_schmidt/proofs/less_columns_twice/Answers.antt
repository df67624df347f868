use native.Mathlib.Omega.{arith}
use Rattle.grid.specs.LoopLaws.{start, next, done}
use Rattle.gram_schmidt.specs.Gram.{less_columns_twice}
use Rattle.gram_schmidt.proofs.less_columns_twice.Goals as goal

pub loop-p-init : goal.loop-p-init
loop-p-init c = start _ _ _

pub loop-p-preserved : goal.loop-p-preserved
loop-p-preserved c = next _ _ _ _ (omega arith) c.loop-p.invariant c.less_columns.ensures

pub returns : goal.returns
unfolding less_columns_twice
returns c = done _ _ _ (omega arith) (omega arith) c.loop-p.invariant
