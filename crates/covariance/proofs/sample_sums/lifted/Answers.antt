use mathlib.Core.Path.{◌∙◌}
use Rattle.covariance.specs.WholeNumbers.{product_fits}
use Rattle.covariance.specs.Lifts.{lifted_fits, cast_fits, cast_is}
use Rattle.covariance.proofs.sample_sums.lifted.Goals as goal

pub times-requires : goal.times-requires
times-requires c = product_fits _ _ c.sample.ensures.1 c.sample-2.ensures.1

pub plus-requires : goal.plus-requires
plus-requires c = lifted_fits c.sample.result c.sample-2.result c.sample.ensures.1 c.sample-2.ensures.1 c.times.ensures

pub overflow_cast-result : goal.overflow_cast-result
overflow_cast-result c = cast_fits c.sample.result c.sample-2.result c.sample.ensures.1 c.sample-2.ensures.1 c.times.ensures c.plus.ensures

pub returns : goal.returns
returns c = record { is = (cast_is c.sample.result c.sample-2.result c.sample.ensures.1 c.sample-2.ensures.1 c.times.ensures c.plus.ensures).0 ∙ rw (c.sample.ensures.0, c.sample-2.ensures.0); most = (cast_is c.sample.result c.sample-2.result c.sample.ensures.1 c.sample-2.ensures.1 c.times.ensures c.plus.ensures).1 }
