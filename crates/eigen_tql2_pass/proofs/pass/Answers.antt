use Rattle.eigen_tql2_pass.specs.Pass.{pass}
use Rattle.eigen_tql2_pass.proofs.pass.Goals as goal

pub returns : goal.returns
unfolding pass
returns c = rw (← c.transform-h.ensures, c.judged.ensures)
