use Rattle.eigen_tql2_pass.specs.Transform.{shift}
use Rattle.eigen_tql2_pass.proofs.ql_transformation.shift.Goals as goal

pub returns : goal.returns
unfolding shift
returns c = rw (← c.pythag.ensures, ← c.signed.ensures)
