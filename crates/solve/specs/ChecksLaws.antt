-- What the checks of `solve` and `pseudo_inverse` answer: the order of the last ones, and what is so of all. Laws only.
use Rattle.std.specs.Prelude.{◌≡◌, refl, Bool, true, false, cond, not, ◌||◌, ℕ, ◌*◌, ◌≤◌, ltb, eqb, Float}
use Rattle.std.proofs.Common.{inl, inr, ⊎_elim, arith}
use borrow.Author.Tests.{le-ltb, eq-eqb, ne_eqb}
use Rattle.answers.specs.Answers.{refused, passed, decomposition_length}
use Rattle.answers.specs.Early.{EarlyOr11}
use Rattle.answers.specs.Index.{AtMark}
use Rattle.answers.specs.IndexLaws.{no_mark}
use Rattle.answers.proofs.OutcomeLaws.{few_early}
use Rattle.answers.specs.declared.Answer.{Answer}
use Rattle.answers.specs.Checks.{tolerance_good, lengths, fitting}
use Rattle.answers.specs.ChecksLaws.{lengths_index}
use Rattle.answers.specs.ChecksLaws.{lengths_few}
use Rattle.solve.specs.Solve.{parts, solve_checks, inverse_checks}

-- ---- the order of 5 and 11

module _ (m n u vt : ℕ) (tol : Float) (d x : ℕ) (few : m ≤ 256) (narrow : n ≤ 256) (has_u : u ≡ 0 → ⊥) (has_vt : vt ≡ 0 → ⊥) where
  -- **5 comes before 11**: whatever the tolerance
  pub solve_checks_5 : (b : ℕ) → (b ≡ m → ⊥) → solve_checks m n u vt tol d b x ≡ refused 5 0
  unfolding solve_checks
  solve_checks_5 b h = simp (le-ltb 256 m few, le-ltb 256 n narrow, ne_eqb u 0 has_u, ne_eqb vt 0 has_vt, ne_eqb b m h)

  pub solve_checks_last : (b : ℕ) → b ≡ m → solve_checks m n u vt tol d b x ≡ fitting tol d (decomposition_length m n u vt) x n
  unfolding solve_checks
  solve_checks_last b h = simp (le-ltb 256 m few, le-ltb 256 n narrow, ne_eqb u 0 has_u, ne_eqb vt 0 has_vt, eq-eqb b m h)

  pub inverse_checks_last : inverse_checks m n u vt tol d x ≡ fitting tol d (decomposition_length m n u vt) x (n * m)
  unfolding inverse_checks
  inverse_checks_last = simp (le-ltb 256 m few, le-ltb 256 n narrow, ne_eqb u 0 has_u, ne_eqb vt 0 has_vt)

-- ---- all that they answer

pub record Checked (x : Answer) : Type 0 where
  pub early : passed x ≡ false → EarlyOr11 x
  pub unmarked : AtMark x → ⊥
  pub none : x.index ≡ 0

checked_refused : (k : ℕ) → 1 ≤ k → k ≤ 6 → Checked (refused k 0)
checked_refused k p q = record { early = λ t. inl (record { some = p; few = q }); unmarked = no_mark (refused k 0) (omega arith); none = refl }

checked_11 : Checked (refused 11 0)
checked_11 = record { early = λ t. inr refl; unmarked = ⊎_elim (λ e. omega arith) (λ e. omega arith); none = refl }

either : (b : Bool) (x y : Answer) → Checked x → Checked y → Checked (cond b x y)
either true x y p q = p
either false x y p q = q

checked_parts : (m n u vt : ℕ) (later : Answer) → Checked later → Checked (parts m n u vt later)
checked_parts m n u vt later h =
    either (ltb 256 m || ltb 256 n) _ _ (checked_refused 1 (omega arith) (omega arith))
    (either (eqb u 0) _ _ (checked_refused 3 (omega arith) (omega arith)) (either (eqb vt 0) _ _ (checked_refused 4 (omega arith) (omega arith)) h))

checked_fitting : (tol : Float) (a wa b wb : ℕ) → Checked (fitting tol a wa b wb)
unfolding fitting
checked_fitting tol a wa b wb =
    either (not (tolerance_good tol)) _ _ checked_11
    (record {
      early = λ t. inl (few_early (lengths a wa b wb 0 0) (lengths_few a wa b wb 0 0) t);
      unmarked = no_mark (lengths a wa b wb 0 0) (omega (arith, lengths_few a wa b wb 0 0));
      none = lengths_index a wa b wb 0 0;
    })

pub solve_checked : (m n u vt : ℕ) (tol : Float) (d b x : ℕ) → Checked (solve_checks m n u vt tol d b x)
unfolding solve_checks
solve_checked m n u vt tol d b x =
    checked_parts m n u vt _ (either (not (eqb b m)) _ _ (checked_refused 5 (omega arith) (omega arith)) (checked_fitting tol d _ x n))

pub inverse_checked : (m n u vt : ℕ) (tol : Float) (d x : ℕ) → Checked (inverse_checks m n u vt tol d x)
unfolding inverse_checks
inverse_checked m n u vt tol d x = checked_parts m n u vt _ (checked_fitting tol d _ x _)
