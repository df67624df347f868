-- What is said of an outcome of `sums`: samples of 16 bits, and a float that is the sum of a band. Definitions only.
use Rattle.std.specs.Prelude.{List, ℕ, ◌≤◌, ◌<◌, ℤ, nat_abs, length, Float}
use Rattle.std.specs.Int.{w16}
use Rattle.std.proofs.Common.{SFits}
use Rattle.covariance.specs.SampleSums.{sample_at}
use Rattle.covariance_sums.specs.Sums.{sum_of}
use Rattle.covariance_theorems.specs.ExactEntries.{Stands}

-- every sample is of 16 bits, from -32768 to 32767, as what a caller lends is by its type
abbrev pub Sixteen : List ℤ → Type 0
Sixteen samples = (k : ℕ) → k < length samples → SFits w16 (sample_at samples k)

-- the float y is the sum of band x, which is at most 2^31 in magnitude
pub record ExactSum (samples : List ℤ) (N x : ℕ) (y : Float) : Type 0 where
  pub small : nat_abs (sum_of samples N x) ≤ 0x8000_0000
  pub stands : Stands y (sum_of samples N x)
