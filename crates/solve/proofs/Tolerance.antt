-- What the tolerance does: -0.0 is 0, and where it is not refused nothing is changed by its check. Laws only.
use Rattle.std.specs.Prelude.{◌≡◌, true, cond, ◌++◌, ℕ, ◌*◌, Float, length, take}
use Rattle.std.proofs.Common.{sym, ◌∙◌}
use Rattle.std.specs.Float.Ieee.{neg}
use Rattle.grid.specs.Loop.{upto}
use Rattle.grid.specs.Real.{Vec, zero64, one64, at, ◌⊕◌, ◌⊗◌, ◌⊘◌}
use Rattle.grid.specs.Cell.{entry}
use Rattle.grid.specs.Table.{table, rows}
use Rattle.leaves.specs.Scan.{first_bad}
use Rattle.answers.specs.Answers.{passed, least, decomposition_length, unless_bad}
use Rattle.answers.specs.Checks.{tolerance_good, fitting}
use Rattle.answers.specs.ToleranceLaws.{fitting_lengths, zero_good, minus_zero_good, above_minus_zero}
use Rattle.solve.specs.Solution.{u_of, vt_of, column_sum, coefficient, solution}
use Rattle.solve.specs.PseudoInverse.{inverse, pinv_sum, inverted}
use Rattle.solve.specs.Solve.{solve_checks, inverse_checks, looked, solve, pseudo_inverse}
use Rattle.solve.specs.WithoutToleranceCheck.{solve_before, pseudo_inverse_before}

-- ---- -0.0, which is neg zero64, and 0

coefficient_zero : (sv acc : Float) → coefficient (neg zero64) sv acc ≡ coefficient zero64 sv acc
unfolding coefficient
coefficient_zero sv acc i = cond (above_minus_zero sv i) (acc ⊘ sv) zero64

solution_zero : (m n : ℕ) (d b : Vec) → solution m n (neg zero64) d b ≡ solution m n zero64 d b
unfolding solution
solution_zero m n d b i =
    let r = least m n in
    table (column_sum r n (vt_of m r d) (table (λ k. coefficient_zero (at (take r d) k) (column_sum m r (u_of m r d) b k) i) r)) n

inverse_zero : (sv : Float) → inverse (neg zero64) sv ≡ inverse zero64 sv
unfolding inverse
inverse_zero sv i = cond (above_minus_zero sv i) (one64 ⊘ sv) zero64

inverted_zero : (m n : ℕ) (d : Vec) → inverted m n (neg zero64) d ≡ inverted m n zero64 d
unfolding inverted pinv_sum
inverted_zero m n d i =
    let r = least m n in
    rows (λ j. table (λ k. upto (λ l acc. acc ⊕ entry (vt_of m r d) n l j ⊗ inverse_zero (at (take r d) l) i ⊗ entry (u_of m r d) r k l) 0 r zero64) m) n

good_zero : tolerance_good (neg zero64) ≡ tolerance_good zero64
good_zero = minus_zero_good ∙ sym zero_good

solve_checks_zero : (m n u vt d b x : ℕ) → solve_checks m n u vt (neg zero64) d b x ≡ solve_checks m n u vt zero64 d b x
unfolding solve_checks fitting
solve_checks_zero m n u vt d b x = rw good_zero

inverse_checks_zero : (m n u vt d x : ℕ) → inverse_checks m n u vt (neg zero64) d x ≡ inverse_checks m n u vt zero64 d x
unfolding inverse_checks fitting
inverse_checks_zero m n u vt d x = rw good_zero

-- **tolerance_zero**
pub solve_tolerance_zero : (m n u vt : ℕ) (d b x : Vec) → solve m n u vt (neg zero64) d b x ≡ solve m n u vt zero64 d b x
unfolding solve
solve_tolerance_zero m n u vt d b x i =
    let check = solve_checks_zero m n u vt (length d) (length b) (length x) i in
    cond (passed check) (unless_bad (first_bad (d ++ b)) x (looked (solution_zero m n d b i))) (check, x)

pub pseudo_inverse_tolerance_zero : (m n u vt : ℕ) (d x : Vec) → pseudo_inverse m n u vt (neg zero64) d x ≡ pseudo_inverse m n u vt zero64 d x
unfolding pseudo_inverse
pseudo_inverse_tolerance_zero m n u vt d x i =
    let check = inverse_checks_zero m n u vt (length d) (length x) i in
    cond (passed check) (unless_bad (first_bad d) x (looked (inverted_zero m n d i))) (check, x)

-- ---- **where the tolerance is not refused, the outcome is the one with no check**

pub solve_as_before : (m n u vt : ℕ) (tol : Float) (d b x : Vec) → tolerance_good tol ≡ true → solve m n u vt tol d b x ≡ solve_before m n u vt tol d b x
unfolding solve solve_checks
solve_as_before m n u vt tol d b x g = rw (fitting_lengths tol (length d) (decomposition_length m n u vt) (length x) n g)

pub pseudo_inverse_as_before : (m n u vt : ℕ) (tol : Float) (d x : Vec) → tolerance_good tol ≡ true → pseudo_inverse m n u vt tol d x ≡ pseudo_inverse_before m n u vt tol d x
unfolding pseudo_inverse inverse_checks
pseudo_inverse_as_before m n u vt tol d x g = rw (fitting_lengths tol (length d) (decomposition_length m n u vt) (length x) (n * m) g)
