use native.Mathlib.Omega.{arith}
use borrow.Author.Rules.{rules}
use Rattle.grid.specs.LoopLaws.{start, next, done}
use Rattle.svd_jacobi_svd_tall.specs.SingularValues.{normalised}
use Rattle.svd_jacobi_svd_tall.proofs.singular_values.normalise.Goals as goal

pub loop-j-init : goal.loop-j-init
loop-j-init c = (search rules, start _ _ _)

pub loop-j-preserved : goal.loop-j-preserved
loop-j-preserved c = (search rules, next _ _ _ _ (omega arith) c.loop-j.invariant.1 c.normalise_column.ensures)

pub returns : goal.returns
unfolding normalised
returns c = done _ _ _ (omega arith) (omega arith) c.loop-j.invariant.1
