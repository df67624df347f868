use Rattle.svd_jacobi_svd_tall.specs.JacobiSvdTall.{finished}
use Rattle.svd_jacobi_svd_tall.proofs.finish.Goals as goal

pub returns : goal.returns
unfolding finished
returns c = rw (← c.normalise.ensures, ← c.all_bad.ensures, ← c.marked.ensures)
