use Rattle.eigen_tql2_pass.specs.Pass.{mark1}
use Rattle.eigen_tql2_pass.proofs.mark1.Goals as goal

pub returns : goal.returns
unfolding mark1
returns c = c.first_bad_of_both.ensures
