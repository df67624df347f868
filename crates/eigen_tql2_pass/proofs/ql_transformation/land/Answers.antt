use mathlib.Core.Path.{refl}
use Rattle.eigen_tql2_pass.specs.Transform.{landed}
use Rattle.eigen_tql2_pass.proofs.ql_transformation.land.Goals as goal

pub returns : goal.returns
unfolding landed
returns c = refl
