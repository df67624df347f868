use Rattle.std.proofs.Common.{arith}
use Rattle.grid.specs.LoopLaws.{start, next, done}
use Rattle.lanczos_steps.specs.Reorthogonalise.{twice}
use Rattle.lanczos_steps.specs.AgainstLaws.{against_all}
use Rattle.lanczos_steps.proofs.reorthogonalise.twice.Goals as goal

pub loop-p-init : goal.loop-p-init
loop-p-init c = start _ _ _

pub loop-p-preserved : goal.loop-p-preserved
loop-p-preserved c = next _ _ _ _ (omega arith) c.loop-p.invariant c.against_all.ensures

pub returns : goal.returns
unfolding against_all twice
returns c = done _ _ _ (omega arith) (omega arith) c.loop-p.invariant
