use Rattle.eigen_tql2_pass.specs.Transform.{transformed}
use Rattle.eigen_tql2_pass.proofs.ql_transformation.transform.Goals as goal

pub returns : goal.returns
unfolding transformed
returns c = rw (← c.shift-h.ensures, ← c.lessen.ensures, ← c.spins-q.ensures, ← c.land.ensures)
