-- `qr_q`: its columns in turn, with the checks in the scope's order. Definitions only.
use Rattle.std.specs.Prelude.{cond, ◌||◌, ℕ, ◌*◌, ltb, length}
use Rattle.grid.specs.Loop.{upto}
use Rattle.grid.specs.Real.{Vec}
use Rattle.answers.specs.Answers.{refused, done, passed, unless_bad}
use Rattle.answers.specs.declared.Answer.{Answer}
use Rattle.answers.specs.Checks.{lengths}
use Rattle.leaves.specs.Scan.{first_bad}
use Rattle.gram_schmidt.specs.Gram.{column_of, less_columns_twice, norm}
use Rattle.gram_schmidt.specs.Unit.{finished}

-- ---- the run: the four numbers, and q

-- column j against those before it, twice, and then over its norm
unfoldable pub column : ℕ → ℕ → ℕ → Vec → Answer × Vec
column m k j q =
    let c = less_columns_twice m k j q (column_of m k q j) in
    finished m k j (norm m c) c q

-- the first j columns in turn; nothing more is done after a refusal
unfoldable pub columns : ℕ → ℕ → Vec → ℕ → Answer × Vec
columns m k a j = upto (λ i s. cond (passed s.0) (column m k i s.1) s) 0 j (done 0, a)

-- ---- the whole

-- the checks, on lengths
unfoldable pub checks : ℕ → ℕ → ℕ → ℕ → Answer
checks m k a x = cond (ltb 256 m || ltb 256 k) (refused 1 0) (lengths a (m * k) x (m * k) 0 0)

-- 1 and 6 leave the answer x as it was; refusal 7 looks at the matrix a
unfoldable pub qr_q : ℕ → ℕ → Vec → Vec → Answer × Vec
qr_q m k a x =
    let check = checks m k (length a) (length x) in
    cond (passed check) (unless_bad (first_bad a) x (columns m k a k)) (check, x)
