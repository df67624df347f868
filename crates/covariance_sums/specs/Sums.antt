-- The checks, the sums, and the outcome for every input. Definitions only.
use Rattle.std.specs.Prelude.{cond, List, ℕ, ◌*◌, ℤ, length}
use Rattle.std.specs.Float.{binary64}
use Rattle.std.specs.Float.Ieee.{of_int}
use Rattle.grid.specs.Real.{Vec}
use Rattle.grid.specs.Table.{table}
use Rattle.answers.specs.Answers.{done, passed}
use Rattle.answers.specs.declared.Answer.{Answer}
use Rattle.answers.specs.Checks.{lengths}
use Rattle.covariance.specs.Covariance.{band_checks}
use Rattle.covariance.specs.MatrixEntries.{band}
use Rattle.covariance.specs.SampleSums.{total}

-- refusals 1, 25 and 6
unfoldable pub sum_checks : ℕ → ℕ → ℕ → ℕ → Answer
sum_checks n N samples out = band_checks n N (lengths samples (n * N) out n 0 0)

-- the sum of band x, of N samples a band
abbrev pub sum_of : List ℤ → ℕ → ℕ → ℤ
sum_of samples N x = total N (band samples N x)

-- the sums of all bands as doubles, one behind the other
unfoldable pub sums_of : ℕ → ℕ → List ℤ → Vec
sums_of n N samples = table (λ x. of_int binary64 (sum_of samples N x)) n

-- the answer and the sums, for every input
unfoldable pub sums : ℕ → ℕ → List ℤ → Vec → Answer × Vec
sums n N samples out =
    let check = sum_checks n N (length samples) (length out) in
    cond (passed check) (done 0, sums_of n N samples) (check, out)
