use Rattle.eigen_tred2_definition.specs.Tred2.{skip}
use Rattle.eigen_tred2.proofs.reduction.skip.Goals as goal

pub returns : goal.returns
unfolding skip
returns c = rw (← c.skip_row.ensures)
