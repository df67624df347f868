-- What the answer array held before changes nothing but what a refusal 1 to 6 or 11 leaves as it was. Laws only.
use Rattle.std.specs.Prelude.{◌≡◌, refl, cond, ◌++◌, ℕ, Float, length}
use Rattle.std.proofs.Common.{ap, ◌∙◌}
use Rattle.grid.specs.Real.{Vec}
use Rattle.leaves.specs.Scan.{first_bad}
use Rattle.answers.specs.Answers.{passed, unless_bad}
use Rattle.answers.specs.Early.{EarlyOr11}
use Rattle.answers.proofs.OutcomeLaws.{same_bad, old_kept}
use Rattle.answers.specs.declared.Answer.{Answer}
use Rattle.solve.specs.Solve.{solve_checks, inverse_checks, looked, solve, pseudo_inverse}
use Rattle.solve.specs.Solution.{solution}
use Rattle.solve.specs.PseudoInverse.{inverted}
use Rattle.solve.specs.ChecksLaws.{solve_checked, inverse_checked}

pub solve_old_contents : (m n u vt : ℕ) (tol : Float) (d b x y : Vec) → length x ≡ length y → (EarlyOr11 (solve m n u vt tol d b x).0 → ⊥) → solve m n u vt tol d b x ≡ solve m n u vt tol d b y
unfolding solve
solve_old_contents m n u vt tol d b x y l h =
    old_kept (Answer × Vec) EarlyOr11 (λ x. x.0) (solve_checks m n u vt tol (length d) (length b) (length x)) _
    (unless_bad (first_bad (d ++ b)) y (looked (solution m n tol d b))) _ (solve_checks m n u vt tol (length d) (length b) (length x), y)
    (solve_checked m n u vt tol (length d) (length b) (length x)).early
    (λ t. same_bad (first_bad (d ++ b)) x y _ _ l refl) refl h
    ∙ ap (λ (k : ℕ). cond (passed (solve_checks m n u vt tol (length d) (length b) k)) (unless_bad (first_bad (d ++ b)) y (looked (solution m n tol d b))) (solve_checks m n u vt tol (length d) (length b) k, y)) l

pub pseudo_inverse_old_contents : (m n u vt : ℕ) (tol : Float) (d x y : Vec) → length x ≡ length y → (EarlyOr11 (pseudo_inverse m n u vt tol d x).0 → ⊥) → pseudo_inverse m n u vt tol d x ≡ pseudo_inverse m n u vt tol d y
unfolding pseudo_inverse
pseudo_inverse_old_contents m n u vt tol d x y l h =
    old_kept (Answer × Vec) EarlyOr11 (λ x. x.0) (inverse_checks m n u vt tol (length d) (length x)) _
    (unless_bad (first_bad d) y (looked (inverted m n tol d))) _ (inverse_checks m n u vt tol (length d) (length x), y)
    (inverse_checked m n u vt tol (length d) (length x)).early
    (λ t. same_bad (first_bad d) x y _ _ l refl) refl h
    ∙ ap (λ (k : ℕ). cond (passed (inverse_checks m n u vt tol (length d) k)) (unless_bad (first_bad d) y (looked (inverted m n tol d))) (inverse_checks m n u vt tol (length d) k, y)) l
