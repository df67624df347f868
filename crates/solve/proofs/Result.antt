-- Where the answer is 0, every number of the answer array is finite, and there are n, or n·m, of them. Laws only.
use Rattle.leaves.specs.declared.Bad.{Bad}
use Rattle.std.specs.Prelude.{◌≡◌, refl, cond, ◌++◌, ℕ, ◌*◌, Float, length, Option, Some, None, is_some}
use Rattle.std.proofs.Common.{⊎_elim, arith}
use Rattle.grid.specs.Real.{Vec, at}
use Rattle.grid.specs.TableLaws.{length_table, length_rows}
use Rattle.leaves.specs.Scan.{first_bad}
use Rattle.leaves.specs.Finite.{Finite}
use Rattle.leaves.specs.ScanLaws.{first_bad_none, scan_class}
use Rattle.answers.specs.Answers.{done, emptied, marked}
use Rattle.answers.proofs.OutcomeLaws.{Good, refuses, unless_good, check_good}
use Rattle.solve.specs.Solve.{looked, solve_checks, inverse_checks, solve, pseudo_inverse}
use Rattle.solve.specs.Solution.{solution}
use Rattle.solve.specs.PseudoInverse.{inverted}

looked_good : (n : ℕ) (x : Vec) → length x ≡ n → Good n (looked x)
unfolding looked
looked_good n x l = go (first_bad x) refl
  where
    go : (b : Option Bad) → first_bad x ≡ b → Good n (cond (is_some b) (emptied (marked 2 0 b) x) (done 0, x))
    go (Some bad) e = refuses n _ _ (λ z. ⊎_elim (λ h. omega arith) (λ h. omega arith) (scan_class (at x) (length x) bad.index bad.class e))
    go None e = record { finite = λ z. first_bad_none x e; long = λ z. l }

pub solve_good : (m n u vt : ℕ) (tol : Float) (d b x : Vec) → Good n (solve m n u vt tol d b x)
unfolding solve solution
solve_good m n u vt tol d b x =
    check_good n (solve_checks m n u vt tol (length d) (length b) (length x)) x _
    (unless_good n (first_bad (d ++ b)) x _ (looked_good n (solution m n tol d b) (length_table _ n)))

-- **finite_out**
pub solve_finite_out : (m n u vt : ℕ) (tol : Float) (d b x : Vec) → (solve m n u vt tol d b x).0.answer ≡ 0 → Finite (solve m n u vt tol d b x).1
solve_finite_out m n u vt tol d b x = (solve_good m n u vt tol d b x).finite

pub pseudo_inverse_good : (m n u vt : ℕ) (tol : Float) (d x : Vec) → Good (n * m) (pseudo_inverse m n u vt tol d x)
unfolding pseudo_inverse inverted
pseudo_inverse_good m n u vt tol d x =
    check_good (n * m) (inverse_checks m n u vt tol (length d) (length x)) x _
    (unless_good (n * m) (first_bad d) x _ (looked_good (n * m) (inverted m n tol d) (length_rows _ m n (λ k. length_table _ m))))

pub pseudo_inverse_finite_out : (m n u vt : ℕ) (tol : Float) (d x : Vec) → (pseudo_inverse m n u vt tol d x).0.answer ≡ 0 → Finite (pseudo_inverse m n u vt tol d x).1
pseudo_inverse_finite_out m n u vt tol d x = (pseudo_inverse_good m n u vt tol d x).finite
