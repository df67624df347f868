use mathlib.Core.Path.{refl}
use native.Mathlib.Omega.{arith}
use Rattle.grid.specs.LoopLaws.{start, next, done}
use Rattle.eigen_tql2_pass.specs.Transform.{lessened}
use Rattle.eigen_tql2_pass.proofs.ql_transformation.lessen.Goals as goal

pub loop-i-init : goal.loop-i-init
loop-i-init c = (omega arith, omega arith, start _ _ _)

pub loop-i-preserved : goal.loop-i-preserved
loop-i-preserved c = (omega arith, omega arith, next _ _ _ _ (omega arith) c.loop-i.invariant.2 refl)

pub returns : goal.returns
unfolding lessened
returns c = done _ _ _ (omega arith) (omega arith) c.loop-i.invariant.2
