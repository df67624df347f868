use Rattle.svd_jacobi_svd_tall.specs.PairsApart.{pair_is}
use Rattle.svd_jacobi_svd_tall.proofs.sweep.pair.Goals as goal

pub returns : goal.returns
returns c = rw (pair_is, ← c.gram-g.ensures, ← c.pair_by.ensures)
