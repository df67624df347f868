use mathlib.Core.Path.{refl}
use native.Mathlib.Omega.{arith}
use Rattle.grid.specs.LoopLaws.{start, next, done}
use Rattle.svd_jacobi_svd_tall.specs.SingularValues.{norm_sq}
use Rattle.svd_jacobi_svd_tall.proofs.singular_values.norm_sq.Goals as goal

pub loop-i-init : goal.loop-i-init
loop-i-init c = start _ _ _

pub loop-i-preserved : goal.loop-i-preserved
loop-i-preserved c = next _ _ _ _ (omega arith) c.loop-i.invariant refl

pub returns : goal.returns
unfolding norm_sq
returns c = done _ _ _ (omega arith) (omega arith) c.loop-i.invariant
