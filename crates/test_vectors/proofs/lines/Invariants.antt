use Rattle.std.proofs.Common.{length}
use Rattle.test_vectors.proofs.lines.Given as goal

abbrev pub decreases-loop-rest : goal.decreases-loop-rest
decreases-loop-rest l = length l.left
