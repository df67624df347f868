-- `solve` and `pseudo_inverse` with no check of the tolerance. Definitions only.
use Rattle.std.specs.Prelude.{cond, not, ◌++◌, ℕ, ◌*◌, eqb, Float, length}
use Rattle.grid.specs.Real.{Vec}
use Rattle.leaves.specs.Scan.{first_bad}
use Rattle.answers.specs.Answers.{refused, passed, decomposition_length, unless_bad}
use Rattle.answers.specs.declared.Answer.{Answer}
use Rattle.answers.specs.Checks.{lengths}
use Rattle.solve.specs.Solve.{parts, looked}
use Rattle.solve.specs.Solution.{solution}
use Rattle.solve.specs.PseudoInverse.{inverted}

abbrev pub solve_before : ℕ → ℕ → ℕ → ℕ → Float → Vec → Vec → Vec → Answer × Vec
solve_before m n u vt tol d b x =
    let check = parts m n u vt (cond (not (eqb (length b) m)) (refused 5 0) (lengths (length d) (decomposition_length m n u vt) (length x) n 0 0)) in
    cond (passed check)
    (unless_bad (first_bad (d ++ b)) x (looked (solution m n tol d b)))
    (check, x)

abbrev pub pseudo_inverse_before : ℕ → ℕ → ℕ → ℕ → Float → Vec → Vec → Answer × Vec
pseudo_inverse_before m n u vt tol d x =
    let check = parts m n u vt (lengths (length d) (decomposition_length m n u vt) (length x) (n * m) 0 0) in
    cond (passed check)
    (unless_bad (first_bad d) x (looked (inverted m n tol d)))
    (check, x)
