use Rattle.eigen_tred2_definition.specs.Tred2.{against}
use Rattle.eigen_tred2.proofs.householder.against.Goals as goal

pub returns-then-f : goal.returns-then-f
unfolding against
returns-then-f c = simp c.if-f.true

pub returns-else-f : goal.returns-else-f
unfolding against
returns-else-f c = simp c.if-f.false
