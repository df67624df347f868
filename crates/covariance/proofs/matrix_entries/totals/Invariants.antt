use Rattle.covariance.specs.StoredEntries.{Totals}
use Rattle.covariance.proofs.matrix_entries.totals.Given as goal

abbrev pub invariant-loop-j : goal.invariant-loop-j
invariant-loop-j l = Totals l.j l.count l.samples l.sums
