-- The checks, and the outcome for every input. Definitions only.
use Rattle.std.specs.Prelude.{cond, ◌||◌, List, ℕ, ◌*◌, ltb, ℤ, length}
use Rattle.grid.specs.Real.{Vec}
use Rattle.answers.specs.Answers.{refused, passed}
use Rattle.answers.specs.declared.Answer.{Answer}
use Rattle.answers.specs.Checks.{lengths}
use Rattle.covariance.specs.MatrixEntries.{computed}

-- n bands of N samples: refusal 1 or 25, or else `rest`
abbrev pub band_checks : ℕ → ℕ → Answer → Answer
band_checks n N rest =
    cond (ltb 256 n) (refused 1 0)
    (cond (ltb N 1 || ltb 65536 N) (refused 25 0) rest)

-- refusals 1, 25 and 6
unfoldable pub cov_checks : ℕ → ℕ → ℕ → ℕ → Answer
cov_checks n N samples matrix = band_checks n N (lengths samples (n * N) matrix (n * n) 0 0)

-- the answer and the matrix, for every input
unfoldable pub covariance : ℕ → ℕ → List ℤ → Vec → Answer × Vec
covariance n N samples matrix =
    let check = cov_checks n N (length samples) (length matrix) in
    cond (passed check) (computed n N samples matrix) (check, matrix)
