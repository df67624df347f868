use mathlib.Core.Path.{refl}
use native.Mathlib.Omega.{arith}
use Rattle.eigen_tql2_pass.specs.Transform.{spins}
use Rattle.grid.specs.LoopLaws.{fall_more, fall_done}
use Rattle.eigen_tql2_pass.proofs.ql_transformation.spins.Goals as goal

pub loop-i-init : goal.loop-i-init
loop-i-init c = (omega arith, refl)

pub loop-i-preserved : goal.loop-i-preserved
loop-i-preserved c = (omega arith, fall_more _ _ _ (omega arith) c.spin_at-q.ensures c.loop-i.invariant.1)

pub returns : goal.returns
unfolding spins
returns c = fall_done _ _ _ (omega arith) c.loop-i.invariant.1
