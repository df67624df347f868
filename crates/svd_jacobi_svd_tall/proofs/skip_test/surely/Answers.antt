use Rattle.svd_jacobi_svd_tall.specs.SkipTest.{surely}
use Rattle.svd_jacobi_svd_tall.proofs.skip_test.surely.Goals as goal

pub returns : goal.returns
unfolding surely
returns c = rw (← c.both.ensures)
