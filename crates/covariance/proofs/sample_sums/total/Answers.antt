use mathlib.Core.Path.{◌∙◌, ap}
use native.Mathlib.Omega.{arith}
use Rattle.grid.specs.LoopLaws.{start, next, done}
use lib.IntN.{ℤ, ◌+ℤ◌}
use native.Mathlib.Nat.{le_antisymm}
use mir.Syntax.{w64}
use mir.Val.{to_z}
use Rattle.covariance.specs.WholeNumbers.{zero_in, sum_fits, sum_is, sum_in}
use Rattle.covariance.specs.SampleSums.{total}
use Rattle.covariance.proofs.sample_sums.total.Goals as goal

pub loop-k-init : goal.loop-k-init
loop-k-init c = (start _ _ _, zero_in _ _)

pub plus-s-requires : goal.plus-s-requires
plus-s-requires c = sum_fits 32767 32768 c.loop-k.k (to_z w64 c.loop-k.s-bits) _ (omega arith) (omega arith) (omega arith) c.loop-k.invariant.1 c.sample.ensures.1

pub loop-k-preserved : goal.loop-k-preserved
loop-k-preserved c = (next _ _ _ _ (omega arith) c.loop-k.invariant.0 (sum_is 32767 32768 c.loop-k.k (to_z w64 c.loop-k.s-bits) _ (omega arith) (omega arith) (omega arith) c.loop-k.invariant.1 c.sample.ensures.1 c.plus-s.ensures ∙ ap (λ (z : ℤ). (to_z w64 c.loop-k.s-bits) +ℤ z) c.sample.ensures.0), sum_in 32767 32768 c.loop-k.k (to_z w64 c.loop-k.s-bits) _ (omega arith) (omega arith) (omega arith) c.loop-k.invariant.1 c.sample.ensures.1 c.plus-s.ensures)

pub returns : goal.returns
unfolding total
returns c = (done _ _ _ (omega arith) (omega arith) c.loop-k.invariant.0, rw (le_antisymm {n = c.args.count} {m = c.loop-k.k} (omega arith) (omega arith)) c.loop-k.invariant.1)
