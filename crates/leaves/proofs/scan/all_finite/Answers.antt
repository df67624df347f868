use native.Mathlib.Omega.{arith}
use Rattle.grid.specs.LoopLaws.{start, next, done}
use Rattle.leaves.specs.FiniteLaws.{all_finite}
use Rattle.leaves.proofs.scan.all_finite.Goals as goal

pub loop-x-init : goal.loop-x-init
loop-x-init c = (omega arith, start _ _ _)

pub loop-x-preserved : goal.loop-x-preserved
loop-x-preserved c = (omega arith, next _ _ _ _ (omega arith) c.loop-x.invariant.1 (rw (← c.is_finite-all.ensures)))

pub returns : goal.returns
unfolding all_finite
returns c = done _ _ _ (omega arith) (omega arith) c.loop-x.invariant.1
