use mathlib.Core.Path.{refl}
use native.Mathlib.Omega.{arith}
use Rattle.grid.specs.LoopLaws.{start, next, done}
use Rattle.eigen_tred2_definition.specs.Tred2.{lessen}
use Rattle.eigen_tred2.proofs.reduction.lessen.Goals as goal

pub loop-j-init : goal.loop-j-init
loop-j-init c = start _ _ _

pub loop-j-preserved : goal.loop-j-preserved
loop-j-preserved c = next _ _ _ _ (omega arith) c.loop-j.invariant refl

pub returns : goal.returns
unfolding lessen
returns c = done _ _ _ (omega arith) (omega arith) c.loop-j.invariant
