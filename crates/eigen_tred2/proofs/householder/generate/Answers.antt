use Rattle.eigen_tred2_definition.specs.Tred2.{generate}
use Rattle.eigen_tred2.proofs.householder.generate.Goals as goal

pub returns : goal.returns
unfolding generate
returns c = rw (← c.over_scale-h.ensures, ← c.root.ensures.value, ← c.against-g.ensures, ← c.clear.ensures)
