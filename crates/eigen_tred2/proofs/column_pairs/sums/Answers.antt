use Rattle.eigen_tred2.specs.ColumnPairs.{sums}
use Rattle.eigen_tred2.proofs.column_pairs.sums.Goals as goal

pub returns : goal.returns
unfolding sums
returns c = rw (c.at-2.ensures, c.at.ensures, c.at-x.ensures)
