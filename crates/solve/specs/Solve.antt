-- `solve` and `pseudo_inverse`: the checks in the scope's order, and the outcomes. Definitions only.
use Rattle.std.specs.Prelude.{cond, not, ◌||◌, ◌++◌, ℕ, ◌*◌, ltb, eqb, Float, length, is_some}
use Rattle.grid.specs.Real.{Vec}
use Rattle.answers.specs.Answers.{refused, done, passed, decomposition_length, emptied, marked, unless_bad}
use Rattle.answers.specs.declared.Answer.{Answer}
use Rattle.answers.specs.Checks.{fitting}
use Rattle.leaves.specs.Scan.{first_bad}
use Rattle.solve.specs.Solution.{solution}
use Rattle.solve.specs.PseudoInverse.{inverted}

-- ---- the checks, on flags, tolerance and lengths

-- 1, 3 and 4, or else what the later checks say
abbrev pub parts : ℕ → ℕ → ℕ → ℕ → Answer → Answer
parts m n u vt later =
    cond (ltb 256 m || ltb 256 n) (refused 1 0)
    (cond (eqb u 0) (refused 3 0)
    (cond (eqb vt 0) (refused 4 0)
    later))

-- 1, 3 and 4, then 5, then 11, then 6, for a decomposition, a right side and an answer of so many numbers
unfoldable pub solve_checks : ℕ → ℕ → ℕ → ℕ → Float → ℕ → ℕ → ℕ → Answer
solve_checks m n u vt tol d b x = parts m n u vt (cond (not (eqb b m)) (refused 5 0) (fitting tol d (decomposition_length m n u vt) x n))

-- 1, 3 and 4, then 11, then 6, for a decomposition and an answer of so many numbers
unfoldable pub inverse_checks : ℕ → ℕ → ℕ → ℕ → Float → ℕ → ℕ → Answer
inverse_checks m n u vt tol d x = parts m n u vt (fitting tol d (decomposition_length m n u vt) x (n * m))

-- ---- the outcomes: the four numbers, and the answer array x afterwards

-- mark 2 looks at the answer x
unfoldable pub looked : Vec → Answer × Vec
looked x = cond (is_some (first_bad x)) (emptied (marked 2 0 (first_bad x)) x) (done 0, x)

-- refusal 7 looks at the decomposition d, then at the right side b
unfoldable pub solve : ℕ → ℕ → ℕ → ℕ → Float → Vec → Vec → Vec → Answer × Vec
solve m n u vt tol d b x =
    let check = solve_checks m n u vt tol (length d) (length b) (length x) in
    cond (passed check) (unless_bad (first_bad (d ++ b)) x (looked (solution m n tol d b))) (check, x)

-- refusal 7 looks at the decomposition d
unfoldable pub pseudo_inverse : ℕ → ℕ → ℕ → ℕ → Float → Vec → Vec → Answer × Vec
pseudo_inverse m n u vt tol d x =
    let check = inverse_checks m n u vt tol (length d) (length x) in
    cond (passed check) (unless_bad (first_bad d) x (looked (inverted m n tol d))) (check, x)
