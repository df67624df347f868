use native.Mathlib.Omega.{arith}
use Rattle.grid.specs.LoopLaws.{start, next, done}
use Rattle.lanczos_pairs.specs.RitzPairs.{pairs}
use Rattle.lanczos_pairs.proofs.ritz_pairs.pairs.Goals as goal

pub loop-t-init : goal.loop-t-init
loop-t-init c = start _ _ _

pub loop-t-preserved : goal.loop-t-preserved
loop-t-preserved c = next _ _ _ _ (omega arith) c.loop-t.invariant c.pair.ensures

pub returns : goal.returns
unfolding pairs
returns c = done _ _ _ (omega arith) (omega arith) c.loop-t.invariant
