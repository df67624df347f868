use Rattle.eigen_tred2.specs.ColumnPairs.{pair_step}
use Rattle.eigen_tred2.proofs.similarity.similar_pair.Goals as goal

pub returns : goal.returns
unfolding pair_step
returns c = rw (← c.put.ensures, ← c.put-2.ensures, ← c.sums-g0.ensures, ← c.similar_two-g.ensures)
