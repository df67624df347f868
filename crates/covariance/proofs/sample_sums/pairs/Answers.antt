use native.Mathlib.Omega.{arith}
use Rattle.covariance.specs.Lifts.{lifts_begin, lifts_pair, lifts_at}
use Rattle.covariance.proofs.sample_sums.pairs.Goals as goal

pub loop-k-init : goal.loop-k-init
loop-k-init c = (omega arith, omega arith, lifts_begin _ _ _ c.requires.5, omega arith, omega arith)

pub overflow_add-q : goal.overflow_add-q
overflow_add-q c = omega (arith, c.lifted.ensures.most, c.lifted-in-loop-k.ensures.most)

pub overflow_add-upper : goal.overflow_add-upper
overflow_add-upper c = omega (arith, c.lifted.ensures.most, c.lifted-in-loop-k.ensures.most)

pub overflow_add-lower : goal.overflow_add-lower
overflow_add-lower c = omega (arith, c.lifted.ensures.most, c.lifted-in-loop-k.ensures.most)

pub loop-k-preserved : goal.loop-k-preserved
loop-k-preserved c = (omega arith, omega arith, lifts_pair _ _ c.loop-k.k c.args.s c.loop-k.upper c.loop-k.lower c.lifted.result c.lifted-in-loop-k.result c.loop-k.invariant.2 c.lifted.ensures c.lifted-in-loop-k.ensures, omega (arith, c.lifted.ensures.most, c.lifted-in-loop-k.ensures.most), omega arith)

pub overflow_add-result : goal.overflow_add-result
overflow_add-result c = omega (arith, c.requires.5.most)

pub overflow_add-result-2 : goal.overflow_add-result-2
overflow_add-result-2 c = omega (arith, c.requires.5.most)

pub returns : goal.returns
returns c = lifts_at _ _ (omega arith) c.loop-k.invariant.2
