use mathlib.Core.Path.{refl}
use native.Mathlib.Omega.{arith}
use Rattle.grid.specs.LoopLaws.{start, next, done}
use Rattle.gram_schmidt.specs.Gram.{lessened}
use Rattle.gram_schmidt.proofs.lessen.Goals as goal

pub loop-row-init : goal.loop-row-init
loop-row-init c = start _ _ _

pub loop-row-preserved : goal.loop-row-preserved
loop-row-preserved c = next _ _ _ _ (omega arith) c.loop-row.invariant refl

pub returns : goal.returns
unfolding lessened
returns c = done _ _ _ (omega arith) (omega arith) c.loop-row.invariant
