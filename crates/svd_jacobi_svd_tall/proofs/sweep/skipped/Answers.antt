use Rattle.svd_jacobi_svd_tall.specs.Sweep.{skipped}
use Rattle.svd_jacobi_svd_tall.proofs.sweep.skipped.Goals as goal

pub returns-then-x : goal.returns-then-x
unfolding skipped
returns-then-x c = rw c.if-x.true

pub returns : goal.returns
unfolding skipped
returns c = rw (c.if-x.false, ← c.magnitude.ensures, ← c.at_most.ensures)
