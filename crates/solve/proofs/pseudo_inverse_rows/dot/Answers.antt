use native.Mathlib.Omega.{arith}
use Rattle.grid.specs.LoopLaws.{start, next, done}
use Rattle.solve.specs.PseudoInverseLaws.{dot}
use Rattle.solve.proofs.pseudo_inverse_rows.dot.Goals as goal

pub loop-k-init : goal.loop-k-init
loop-k-init c = start _ _ _

pub loop-k-preserved : goal.loop-k-preserved
loop-k-preserved c = next _ _ _ _ (omega arith) c.loop-k.invariant (rw (← c.entry.ensures))

pub returns : goal.returns
unfolding dot
returns c = done _ _ _ (omega arith) (omega arith) c.loop-k.invariant
