-- `svd` of document 000 with the scope's checks: the whole outcome of a call, its four numbers, the work array and the result. Definitions only.
use Rattle.std.specs.Prelude.{cond, ◌||◌, ◌++◌, ℕ, ◌*◌, ltb, eqb, Float, length}
use Rattle.grid.specs.Real.{Vec, zeros, zero64, one64}
use Rattle.grid.specs.Cell.{entry}
use Rattle.grid.specs.Table.{table, rows}
use Rattle.leaves.specs.Scan.{first_bad}
use Rattle.answers.specs.Answers.{refused, passed, least, decomposition_length, refusal7}
use Rattle.answers.specs.declared.Answer.{Answer}
use Rattle.answers.specs.Checks.{limit_good, lengths}
use Rattle.svd_jacobi_svd_tall.specs.JacobiSvdTall.{jacobi}
use Rattle.svd_sort_svd_descending.specs.Result.{longest, work_length, sorted_out}

-- row i, column j of what is worked on: the matrix, or its transpose where m < n
unfoldable pub source : ℕ → ℕ → Vec → ℕ → ℕ → Float
source m n a i j = cond (ltb m n) (entry a n j i) (entry a n i j)

-- what is worked on, column by column; behind it the rotations, which start as the identity, and room for the values
unfoldable pub loaded : ℕ → ℕ → Vec → Vec
loaded m n a =
    rows (λ j. table (λ i. source m n a i j) (longest m n)) (least m n)
    ++ (rows (λ j. table (λ i. cond (eqb i j) one64 zero64) (least m n)) (least m n)
    ++ zeros (least m n))

-- ---- the outcome of a call

-- refusals 1, 2 and 6, for arrays of a, b and c numbers
unfoldable pub checks : ℕ → ℕ → ℕ → ℕ → ℕ → ℕ → ℕ → ℕ → Answer
checks m n want_u want_vt limit a b c =
    cond (ltb 256 m || ltb 256 n) (refused 1 0)
    (cond (limit_good limit) (lengths a (m * n) b (work_length m n) c (decomposition_length m n want_u want_vt)) (refused 2 0))

-- the run, over a result that is all +0.0 before it; 8, 9 and 10 come as it meets them
unfoldable pub ran : ℕ → ℕ → ℕ → ℕ → ℕ → Vec → Vec → Vec → Answer × Vec × Vec
ran m n want_u want_vt limit matrix work result =
    let x = jacobi (longest m n) (least m n) limit (loaded m n matrix) in
    (x.0, zeros (length work), cond (passed x.0) (sorted_out m n want_u want_vt x.1) result)

-- 1, 2 and 6 leave work and result as they were, 7 makes both all +0.0; else the run
unfoldable pub svd : ℕ → ℕ → ℕ → ℕ → ℕ → Vec → Vec → Vec → Answer × Vec × Vec
svd m n want_u want_vt limit matrix work result =
    let c = checks m n want_u want_vt limit (length matrix) (length work) (length result) in
    let b = refusal7 (first_bad matrix) in
    let work0 = zeros (length work) in
    let result0 = zeros (length result) in
    cond (passed c) (cond (passed b) (ran m n want_u want_vt limit matrix work0 result0) (b, work0, result0)) (c, work, result)
