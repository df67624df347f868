use native.Mathlib.Omega.{arith}
use Rattle.covariance.specs.Lifts.{lifts_none, lifts_at}
use Rattle.covariance.proofs.sample_sums.blocks.Goals as goal

pub loop-j-init : goal.loop-j-init
loop-j-init c = lifts_none _ _

pub pairs-s-requires : goal.pairs-s-requires
pairs-s-requires c = (omega arith, omega arith, omega arith, omega arith, omega arith, lifts_at _ _ (omega arith) c.loop-j.invariant)

pub loop-j-preserved : goal.loop-j-preserved
loop-j-preserved c = lifts_at _ _ (omega arith) c.pairs-s.ensures

pub returns : goal.returns
returns c = lifts_at _ _ (omega arith) c.loop-j.invariant
