use mathlib.Core.Path.{refl}
use native.Mathlib.Omega.{arith}
use Rattle.grid.specs.LoopLaws.{start, next, done}
use Rattle.gram_schmidt.specs.Unit.{over}
use Rattle.gram_schmidt.proofs.normalise.over.Goals as goal

pub loop-x-init : goal.loop-x-init
loop-x-init c = start _ _ _

pub loop-x-preserved : goal.loop-x-preserved
loop-x-preserved c = next _ _ _ _ (omega arith) c.loop-x.invariant refl

pub returns : goal.returns
unfolding over
returns c = done _ _ _ (omega arith) (omega arith) c.loop-x.invariant
