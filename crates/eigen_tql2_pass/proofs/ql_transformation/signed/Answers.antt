use Rattle.eigen_tql2_pass.specs.Transform.{signed}
use Rattle.eigen_tql2_pass.proofs.ql_transformation.signed.Goals as goal

pub returns-then-p : goal.returns-then-p
unfolding signed
returns-then-p c = rw c.if-p.true

pub returns-else-p : goal.returns-else-p
unfolding signed
returns-else-p c = rw c.if-p.false
