use native.Mathlib.Omega.{arith}
use Rattle.covariance.specs.Lifts.{lifts_at}
use Rattle.covariance.proofs.sample_sums.lifts.Goals as goal

pub blocks-s-requires : goal.blocks-s-requires
blocks-s-requires c = c.requires

pub pairs-t-requires : goal.pairs-t-requires
pairs-t-requires c = (omega arith, omega arith, omega arith, omega arith, omega arith, lifts_at _ _ (omega arith) c.blocks-s.ensures)

pub last-requires : goal.last-requires
last-requires c = (c.requires.0, c.requires.1, c.requires.2, c.pairs-t.ensures)

pub returns : goal.returns
returns c = c.last.ensures
