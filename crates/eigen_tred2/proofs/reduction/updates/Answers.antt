use native.Mathlib.Omega.{arith}
use Rattle.grid.specs.LoopLaws.{start, next, done}
use Rattle.eigen_tred2_definition.specs.Tred2.{updates}
use Rattle.eigen_tred2.proofs.reduction.updates.Goals as goal

pub loop-j-init : goal.loop-j-init
loop-j-init c = start _ _ _

pub loop-j-preserved : goal.loop-j-preserved
loop-j-preserved c = next _ _ _ _ (omega arith) c.loop-j.invariant (rw (← c.update_column.ensures, ← c.at.ensures, ← c.put.ensures))

pub returns : goal.returns
unfolding updates
returns c = done _ _ _ (omega arith) (omega arith) c.loop-j.invariant
