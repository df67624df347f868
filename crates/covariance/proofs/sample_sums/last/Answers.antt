use native.Mathlib.Omega.{arith}
use Rattle.covariance.specs.Lifts.{lifts_more, lifts_at}
use Rattle.covariance.proofs.sample_sums.last.Goals as goal

pub returns-then-count-eq0 : goal.returns-then-count-eq0
returns-then-count-eq0 c = lifts_at _ _ (omega arith) c.requires.3

pub overflow_add-result : goal.overflow_add-result
overflow_add-result c = omega (arith, c.lifted.ensures.most, c.requires.3.most)

pub returns : goal.returns
returns c = lifts_at _ _ (omega arith) (lifts_more _ _ (lifts_at _ _ (omega arith) c.requires.3) c.lifted.ensures)
