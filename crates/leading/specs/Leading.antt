-- `leading`: of a `symmetric_eigen` result the k greatest values, descending, and a row of n for each. Definitions only.
-- The result has n values, ascending, and behind them n rows of n; column j belongs to value j. So the greatest stand last, and of equal values the later column comes first.
use Rattle.std.specs.Prelude.{cond, ◌++◌, ℕ, ◌+◌, ◌-◌, ◌*◌, ltb, length, drop}
use Rattle.grid.specs.Real.{Vec, at}
use Rattle.grid.specs.Table.{table, rows}
use Rattle.answers.specs.Answers.{refused, done, passed, unless_bad}
use Rattle.answers.specs.declared.Answer.{Answer}
use Rattle.answers.specs.Checks.{lengths}
use Rattle.leaves.specs.Scan.{first_bad}
use Rattle.gram_schmidt.specs.Gram.{column_of}

-- k values, then k rows of n: value t is that of place n - 1 - t, and row t is its column
unfoldable pub led : ℕ → ℕ → Vec → Vec
led n k v = table (λ t. at v (n - 1 - t)) k ++ rows (λ t. column_of n n (drop n v) (n - 1 - t)) k

-- the checks, on lengths: 1, 15 and 6
unfoldable pub checks : ℕ → ℕ → ℕ → ℕ → Answer
checks n k v x = cond (ltb 256 n) (refused 1 0) (cond (ltb n k) (refused 15 0) (lengths v (n + n * n) x (k + k * n) 0 0))

-- 1, 15 and 6 leave out as it was; 7, over the whole result, fills it with +0.0
unfoldable pub leading : ℕ → ℕ → Vec → Vec → Answer × Vec
leading n k v x =
    let check = checks n k (length v) (length x) in
    cond (passed check) (unless_bad (first_bad v) x (done 0, led n k v)) (check, x)
