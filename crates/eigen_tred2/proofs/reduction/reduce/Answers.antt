use Rattle.eigen_tred2_definition.specs.Tred2.{reduce}
use Rattle.eigen_tred2.proofs.reduction.reduce.Goals as goal

pub returns-then-scale : goal.returns-then-scale
unfolding reduce
returns-then-scale c = rw c.if-scale.true c.skip.ensures

pub returns-else-scale : goal.returns-else-scale
unfolding reduce
returns-else-scale c = rw c.if-scale.false c.reflect.ensures
