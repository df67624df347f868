use native.Mathlib.Omega.{arith}
use Rattle.grid.specs.LoopLaws.{start, next, done}
use Rattle.eigen_tql2.specs.Sort.{least_from}
use Rattle.eigen_tql2.proofs.sort.least_from.Goals as goal

pub loop-j-init : goal.loop-j-init
loop-j-init c = (omega arith, omega arith, start _ _ _)

pub loop-j-preserved : goal.loop-j-preserved
loop-j-preserved c = (omega arith, omega arith, next _ _ _ _ (omega arith) c.loop-j.invariant.2 c.better-b.ensures)

pub returns : goal.returns
unfolding least_from
returns c = (done _ _ _ (omega arith) (omega arith) c.loop-j.invariant.2)
