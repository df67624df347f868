use Rattle.eigen_tred2_definition.specs.Tred2.{reflect}
use Rattle.eigen_tred2.proofs.reduction.reflect.Goals as goal

pub returns : goal.returns
unfolding reflect
returns c = rw (← c.generate-h.ensures, ← c.similarity.ensures, ← c.over_h-f.ensures, ← c.lessen.ensures, ← c.updates.ensures)
