use native.Mathlib.Omega.{arith}
use Rattle.grid.specs.LoopLaws.{start, next, done}
use Rattle.svd.specs.LoadedLaws.{matrix_loaded}
use Rattle.svd.proofs.load_matrix.Goals as goal

pub loop-j-init : goal.loop-j-init
loop-j-init c = start _ _ _

pub loop-j-preserved : goal.loop-j-preserved
loop-j-preserved c = next _ _ _ _ (omega arith) c.loop-j.invariant c.load_column.ensures

pub returns : goal.returns
unfolding matrix_loaded
returns c = done _ _ _ (omega arith) (omega arith) c.loop-j.invariant
