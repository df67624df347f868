use native.Mathlib.Omega.{arith}
use Rattle.grid.specs.LoopLaws.{start, next, done}
use Rattle.eigen_tql2_pass.specs.Transform.{rotated}
use Rattle.eigen_tql2_pass.proofs.ql_transformation.rotate.Goals as goal

pub loop-k-init : goal.loop-k-init
loop-k-init c = start _ _ _

pub loop-k-preserved : goal.loop-k-preserved
loop-k-preserved c = next _ _ _ _ (omega arith) c.loop-k.invariant (rw (← c.at-g.ensures, ← c.at-h.ensures, ← c.put.ensures, ← c.put-in-loop-k.ensures))

pub returns : goal.returns
unfolding rotated
returns c = done _ _ _ (omega arith) (omega arith) c.loop-k.invariant
