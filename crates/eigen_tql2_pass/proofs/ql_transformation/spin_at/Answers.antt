use Rattle.eigen_tql2_pass.specs.Transform.{spin}
use Rattle.eigen_tql2_pass.proofs.ql_transformation.spin_at.Goals as goal

pub returns : goal.returns
unfolding spin
returns c = rw (← c.pythag-r.ensures, ← c.rotate.ensures)
