use Rattle.eigen_tred2_definition.specs.Tred2.{tred2}
use Rattle.eigen_tred2.proofs.tred2.Goals as goal

pub returns : goal.returns
unfolding tred2
returns c = rw (← c.copy_last.ensures, ← c.reduction.ensures, ← c.accumulation.ensures, ← c.move_last.ensures, ← c.put.ensures)
