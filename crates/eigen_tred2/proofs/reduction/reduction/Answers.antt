use mathlib.Core.Path.{refl}
use native.Mathlib.Omega.{arith}
use Rattle.grid.specs.LoopLaws.{down_more, down_done}
use Rattle.eigen_tred2_definition.specs.Tred2.{reduction}
use Rattle.eigen_tred2.proofs.reduction.reduction.Goals as goal

pub loop-i-init : goal.loop-i-init
loop-i-init c = refl

pub loop-i-preserved : goal.loop-i-preserved
loop-i-preserved c = down_more _ _ (omega arith) c.householder.ensures c.loop-i.invariant

pub returns : goal.returns
unfolding reduction
returns c = down_done _ (omega arith) c.loop-i.invariant
