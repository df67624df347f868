use Rattle.svd_jacobi_svd_tall.specs.SkipTest.{both}
use Rattle.svd_jacobi_svd_tall.proofs.skip_test.both.Goals as goal

pub returns : goal.returns
unfolding both
returns c = rw (← c.is_finite.ensures, ← c.is_finite-2.ensures)
