use native.Mathlib.Omega.{arith}
use Rattle.grid.specs.LoopLaws.{start, next, done}
use Rattle.eigen_tql2.specs.Sort.{sorted}
use Rattle.eigen_tql2.proofs.sort.sort.Goals as goal

pub loop-i-init : goal.loop-i-init
loop-i-init c = start _ _ _

pub loop-i-preserved : goal.loop-i-preserved
loop-i-preserved c = next _ _ _ _ (omega arith) c.loop-i.invariant c.sort_at.ensures

pub returns : goal.returns
unfolding sorted
returns c = done _ _ _ (omega arith) (omega arith) c.loop-i.invariant
