use borrow.Author.Rules.{sfits_of}
use Rattle.covariance.specs.WholeNumbers.{held_i16}
use Rattle.covariance.proofs.sample_sums.sample.Goals as goal

pub returns : goal.returns
returns c = held_i16 _ (sfits_of c.wide-arg-1.given) c.wide.ensures.0
