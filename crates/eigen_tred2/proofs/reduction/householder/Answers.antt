use Rattle.eigen_tred2_definition.specs.Tred2.{householder}
use Rattle.eigen_tred2.proofs.reduction.householder.Goals as goal

pub returns : goal.returns
unfolding householder
returns c = rw (← c.scale_of-scale.ensures, ← c.reduce-h.ensures)
