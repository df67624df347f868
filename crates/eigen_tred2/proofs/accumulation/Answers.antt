use native.Mathlib.Omega.{arith}
use Rattle.grid.specs.LoopLaws.{start, next, done}
use Rattle.eigen_tred2_definition.specs.Tred2.{accumulation}
use Rattle.eigen_tred2.proofs.accumulation.Goals as goal

pub loop-i-init : goal.loop-i-init
loop-i-init c = start _ _ _

pub loop-i-preserved : goal.loop-i-preserved
loop-i-preserved c = next _ _ _ _ (omega arith) c.loop-i.invariant (rw (← c.accumulate.ensures))

pub returns : goal.returns
unfolding accumulation
returns c = done _ _ _ (omega arith) (omega arith) c.loop-i.invariant
