use mathlib.Core.Path.{◌≡◌}
use Prim.Native.Nat.{◌*◌}
use Rattle.grid.specs.Loop.{upto}
use lib.IntN.{pos, ◌+ℤ◌}
use Rattle.covariance.specs.WholeNumbers.{Range}
use Rattle.covariance.specs.SampleSums.{sample_at}
use Rattle.covariance.proofs.sample_sums.total.Given as goal

abbrev pub invariant-loop-k : goal.invariant-loop-k
invariant-loop-k l = (l.s ≡ upto (λ k s. s +ℤ sample_at l.a k) 0 l.k (pos 0)) × Range (l.k * 32767) (l.k * 32768) (l.s)
