use native.Mathlib.Omega.{arith}
use Rattle.grid.specs.LoopLaws.{start, next, done}
use Rattle.lanczos_pairs.specs.TridiagonalMatrix.{tri}
use Rattle.lanczos_pairs.proofs.tridiagonal_matrix.tri.Goals as goal

pub loop-i-init : goal.loop-i-init
loop-i-init c = start _ _ _

pub loop-i-preserved : goal.loop-i-preserved
loop-i-preserved c = next _ _ _ _ (omega arith) c.loop-i.invariant c.tri_row.ensures

pub returns : goal.returns
unfolding tri
returns c = done _ _ _ (omega arith) (omega arith) c.loop-i.invariant
