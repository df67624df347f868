-- What the index of `solve` and `pseudo_inverse` says: it points at the number that mark 2 met (`..-index-points`), and is 0 on every other answer (`..-index-zero`). Laws only.
use Rattle.leaves.specs.declared.Bad.{Bad}
use Rattle.std.specs.Prelude.{◌≡◌, refl, cond, ◌++◌, ℕ, Float, length, Option, Some, None, is_some}
use Rattle.std.proofs.Common.{arith}
use Rattle.grid.specs.Real.{Vec, at}
use Rattle.leaves.specs.Scan.{first_bad}
use Rattle.leaves.specs.ScanLaws.{scan_first, scan_class}
use Rattle.answers.specs.Answers.{done, emptied, marked}
use Rattle.answers.specs.Index.{AtMark, Indexed}
use Rattle.answers.specs.IndexLaws.{below, pointed, unless_indexed, by_unmarked}
use Rattle.answers.specs.declared.Answer.{Answer}
use Rattle.solve.specs.Solve.{looked, solve_checks, inverse_checks, solve, pseudo_inverse}
use Rattle.solve.specs.Solution.{solution}
use Rattle.solve.specs.PseudoInverse.{inverted}
use Rattle.solve.specs.Index.{Points}
use Rattle.solve.specs.ChecksLaws.{solve_checked, inverse_checked}

looked_indexed : (x : Vec) → Indexed (Points x) (looked x).0
unfolding looked
looked_indexed x = go (first_bad x) refl
  where
    go : (b : Option Bad) → first_bad x ≡ b → Indexed (Points x) (cond (is_some b) (emptied (marked 2 0 b) x) (done 0, x)).0
    go (Some bad) e = pointed (Points x) _ (scan_class (at x) (length x) bad.index bad.class e) (record { first = scan_first (at x) (length x) bad.index bad.class e; mark = refl })
    go None e = below (Points x) _ (omega arith) refl

-- ---- solve

solve_indexed : (m n u vt : ℕ) (tol : Float) (d b x : Vec) → Indexed (Points (solution m n tol d b)) (solve m n u vt tol d b x).0
unfolding solve
solve_indexed m n u vt tol d b x =
    let c = solve_checked m n u vt tol (length d) (length b) (length x) in
    by_unmarked (Points (solution m n tol d b)) (λ (s : Answer × Vec). s.0) (solve_checks m n u vt tol (length d) (length b) (length x)) _ _ refl
    c.unmarked c.none
    (unless_indexed (Points (solution m n tol d b)) (first_bad (d ++ b)) x (looked (solution m n tol d b)) (looked_indexed (solution m n tol d b)))

pub solve_index_points : (m n u vt : ℕ) (tol : Float) (d b x : Vec) → AtMark (solve m n u vt tol d b x).0 → Points (solution m n tol d b) (solve m n u vt tol d b x).0
solve_index_points m n u vt tol d b x = (solve_indexed m n u vt tol d b x).points

pub solve_index_zero : (m n u vt : ℕ) (tol : Float) (d b x : Vec) → (AtMark (solve m n u vt tol d b x).0 → ⊥) → (solve m n u vt tol d b x).0.index ≡ 0
solve_index_zero m n u vt tol d b x = (solve_indexed m n u vt tol d b x).zero

-- ---- pseudo_inverse

pseudo_inverse_indexed : (m n u vt : ℕ) (tol : Float) (d x : Vec) → Indexed (Points (inverted m n tol d)) (pseudo_inverse m n u vt tol d x).0
unfolding pseudo_inverse
pseudo_inverse_indexed m n u vt tol d x =
    let c = inverse_checked m n u vt tol (length d) (length x) in
    by_unmarked (Points (inverted m n tol d)) (λ (s : Answer × Vec). s.0) (inverse_checks m n u vt tol (length d) (length x)) _ _ refl
    c.unmarked c.none
    (unless_indexed (Points (inverted m n tol d)) (first_bad d) x (looked (inverted m n tol d)) (looked_indexed (inverted m n tol d)))

pub pseudo_inverse_index_points : (m n u vt : ℕ) (tol : Float) (d x : Vec) → AtMark (pseudo_inverse m n u vt tol d x).0
    → Points (inverted m n tol d) (pseudo_inverse m n u vt tol d x).0
pseudo_inverse_index_points m n u vt tol d x = (pseudo_inverse_indexed m n u vt tol d x).points

pub pseudo_inverse_index_zero : (m n u vt : ℕ) (tol : Float) (d x : Vec) → (AtMark (pseudo_inverse m n u vt tol d x).0 → ⊥) → (pseudo_inverse m n u vt tol d x).0.index ≡ 0
pseudo_inverse_index_zero m n u vt tol d x = (pseudo_inverse_indexed m n u vt tol d x).zero
