use Rattle.svd_jacobi_svd_tall.specs.SkipTest.{surely_not}
use Rattle.svd_jacobi_svd_tall.proofs.skip_test.surely_not.Goals as goal

pub returns : goal.returns
unfolding surely_not
returns c = rw (← c.both.ensures)
