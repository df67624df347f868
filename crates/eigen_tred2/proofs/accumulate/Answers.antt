use Rattle.eigen_tred2_definition.specs.Tred2.{accumulate}
use Rattle.eigen_tred2.proofs.accumulate.Goals as goal

pub returns : goal.returns
unfolding accumulate
returns c = rw (← c.at.ensures, ← c.put.ensures, ← c.put-2.ensures, ← c.apply.ensures, ← c.clear_column.ensures)
