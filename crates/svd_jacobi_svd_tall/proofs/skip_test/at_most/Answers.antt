use mathlib.Core.Path.{◌∙◌, sym}
use lib.Ieee.{binary64}
use lib.Ieee.Fits.{mul-fits}
use Rattle.svd_jacobi_svd_tall.proofs.skip_test.Settled.{settled, settled_not}
use Rattle.svd_jacobi_svd_tall.proofs.skip_test.at_most.Goals as goal

pub returns-then-surely_not : goal.returns-then-surely_not
returns-then-surely_not c = sym (settled_not _ _ _ (mul-fits binary64 _ _) (mul-fits binary64 _ _) (sym c.surely_not.ensures ∙ c.if-surely_not.true))

pub returns-then-surely : goal.returns-then-surely
returns-then-surely c = sym (settled _ _ _ (mul-fits binary64 _ _) (mul-fits binary64 _ _) (sym c.surely.ensures ∙ c.if-surely.true))
