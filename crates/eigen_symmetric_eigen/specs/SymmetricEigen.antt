-- What a call of `symmetric_eigen` gives, for every input: (answer, work afterwards, result afterwards), in the order of the scope's table. Definitions only.
use Rattle.std.specs.Prelude.{cond, not, ◌++◌, ℕ, ◌+◌, ◌*◌, ltb, eqb, length}
use Rattle.grid.specs.Real.{Vec, zeros}
use Rattle.leaves.specs.Scan.{first_bad_lower, by_rows}
use Rattle.answers.specs.Answers.{done, refused, passed, refusal7}
use Rattle.answers.specs.declared.Answer.{Answer}
use Rattle.answers.specs.Checks.{limit_good, fitting_edition}
use Rattle.eigen_symmetric_eigen.specs.Layout.{columns}
use Rattle.eigen_tred2_definition.specs.Tred2.{tred2}
use Rattle.eigen_symmetric_eigen.specs.AfterTred2.{after_tred}

-- ---- the run: d and e as they are lent, and afterwards the answer, v, d and e

-- the matrix a column by column, `tred2`, then mark 0 and `tql2`
unfoldable pub decomposed : ℕ → ℕ → ℕ → Vec → Vec × Vec → Answer × Vec × Vec × Vec
decomposed n limit edition a (d, e) = after_tred n limit edition (tred2 n (columns n a, d, e))

-- ---- what is lent afterwards

-- on 7, 8, 9 and 10 work and result are all +0.0
abbrev pub cleared : ℕ → Answer → Answer × Vec × Vec
cleared n x = (x, zeros n, zeros (n + n * n))

-- on 0 the values come first in the result, and the vectors row by row behind them
unfoldable pub given : ℕ → Answer × Vec × Vec × Vec → Answer × Vec × Vec
given n (x, v, d, e) = cond (passed x) (x, zeros n, d ++ by_rows n v) (cleared n x)

-- ---- the call

-- sizes, limit, edition and lengths are as they should be
unfoldable pub eigen_entered : ℕ → ℕ → ℕ → Vec → Answer × Vec × Vec
eigen_entered n limit edition a =
    let x = refusal7 (first_bad_lower n a) in
    cond (passed x)
    (cond (eqb n 0) (cleared n (done 0)) (given n (decomposed n limit edition a (zeros n, zeros n))))
    (cleared n x)

-- what a call is refused for before its run: 1, 2, 12 and 6, of the lengths of its arrays
unfoldable pub checks : ℕ → ℕ → ℕ → ℕ → ℕ → ℕ → Answer
checks n limit edition matrix work result =
    cond (ltb 256 n)
    (refused 1 0)
    (cond (not (limit_good limit)) (refused 2 0) (fitting_edition edition matrix (n * n) work n result (n + n * n)))

-- 1, 2, 12 and 6 leave work and result as they were
unfoldable pub eigen : ℕ → ℕ → ℕ → Vec → Vec → Vec → Answer × Vec × Vec
eigen n limit edition a work result =
    let x = fitting_edition edition (length a) (n * n) (length work) n (length result) (n + n * n) in
    cond (ltb 256 n)
    (refused 1 0, work, result)
    (cond (not (limit_good limit)) (refused 2 0, work, result) (cond (passed x) (eigen_entered n limit edition a) (x, work, result)))
