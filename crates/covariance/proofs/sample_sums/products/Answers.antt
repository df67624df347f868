use native.Mathlib.Omega.{arith}
use Rattle.covariance.specs.Lifts.{unlifted_fits, unlifted_is}
use Rattle.covariance.proofs.sample_sums.products.Goals as goal

pub signed-requires : goal.signed-requires
signed-requires c = omega (arith, c.lifts-s.ensures.most)

pub minus-requires : goal.minus-requires
minus-requires c = unlifted_fits _ _ c.args.count c.lifts-s.result c.requires.0 c.lifts-s.ensures c.signed.ensures c.signed-2.ensures

pub returns : goal.returns
returns c = unlifted_is _ _ c.args.count c.lifts-s.result c.requires.0 c.lifts-s.ensures c.signed.ensures c.signed-2.ensures c.minus.ensures
