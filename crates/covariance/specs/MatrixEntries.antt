-- The matrix over whole numbers with a sign: an entry, the first that is over 2^53, and what comes of them. Definitions only.
use Rattle.std.specs.Prelude.{cond, List, ℕ, ◌*◌, ◌/◌, ◌%◌, ltb, ℤ, pos, ◌-ℤ◌, ◌*ℤ◌, take, drop}
use Rattle.std.specs.Float.{binary64}
use Rattle.std.specs.Float.Ieee.{of_int}
use Rattle.grid.specs.Loop.{first}
use Rattle.grid.specs.Real.{Vec}
use Rattle.grid.specs.Table.{table}
use Rattle.answers.specs.Answers.{done, refused, emptied}
use Rattle.answers.specs.declared.Answer.{Answer}
use Rattle.covariance.specs.Over53.{over}
use Rattle.covariance.specs.SampleSums.{total, products}

-- band x, of N samples a band
abbrev pub band : List ℤ → ℕ → ℕ → List ℤ
band samples N x = take N (drop (x * N) samples)

-- the entry of bands x and y
unfoldable pub whole : List ℤ → ℕ → ℕ → ℕ → ℤ
whole samples N x y =
    let a = band samples N x in
    let b = band samples N y in
    pos N *ℤ products N a b -ℤ total N a *ℤ total N b

-- entry k of n by n, row by row
abbrev pub cell_at : ℕ → ℕ → List ℤ → ℕ → ℤ
cell_at n N samples k = whole samples N (k / n) (k % n)

-- the first entry over 2^53; n * n where there is none
unfoldable pub first_over : ℕ → ℕ → List ℤ → ℕ
first_over n N samples = first (λ k. over (cell_at n N samples k)) 0 (n * n)

-- every entry as a double, row by row
unfoldable pub matrix_of : ℕ → ℕ → List ℤ → Vec
matrix_of n N samples = table (λ k. of_int binary64 (cell_at n N samples k)) (n * n)

-- behind the checks: refusal 26, or the matrix
unfoldable pub computed : ℕ → ℕ → List ℤ → Vec → Answer × Vec
computed n N samples matrix =
    let k = first_over n N samples in
    cond (ltb k (n * n)) (emptied (refused 26 k) matrix) (done 0, matrix_of n N samples)
