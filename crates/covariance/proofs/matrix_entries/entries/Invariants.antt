use Rattle.covariance.proofs.matrix_entries.Steps.{SoFar}
use Rattle.covariance.proofs.matrix_entries.entries.Given as goal

abbrev pub invariant-loop-k : goal.invariant-loop-k
invariant-loop-k l = SoFar l.n l.count l.samples l.k l.matrix
