-- Which tolerances are refused, that 11 comes before 6, and that -0.0 is 0. Laws only.
use Rattle.std.specs.Prelude.{◌≡◌, refl, ◌↔◌, ◌⊎◌, Bool, true, false, cond, not, ℕ, ◌*◌, Float}
use Rattle.std.proofs.Common.{sym, ap, ◌∙◌, inl, inr, ⊎_elim, true≢false, zero-add, zero-mul, arith, le-ltb}
use Rattle.std.specs.Float.{nan, inf, fin}
use Rattle.std.specs.Float.Ieee.{of_bits, neg, lt, le, eq, up, down}
use Rattle.grid.specs.Real.{zero64}
use Rattle.leaves.specs.Leaf.{is_finite}
use Rattle.leaves.specs.Compare.{lt_turn, le_of_not, not_of_eq}
use Rattle.answers.specs.Answers.{refused}
use Rattle.answers.specs.Checks.{tolerance_good, lengths, fitting}
use Rattle.answers.specs.ChecksLaws.{lengths_right}

only : (t : Float) → le zero64 t ≡ false → (t ≡ nan) ⊎ (lt t zero64 ≡ true)
unfolding le lt eq of_bits is_finite
only nan h = inl refl
only (inf true) h = inr refl
only (inf false) h = absurd (true≢false h)
only (fin s m e) h = inr (less (lt (fin s m e) zero64) refl)
  where
    less : (b : Bool) → lt (fin s m e) zero64 ≡ b → b ≡ true
    less true p = refl
    less false p = absurd (true≢false (sym (le_of_not (fin s m e) zero64 refl refl p) ∙ h))

not_a_number : le zero64 nan ≡ false
unfolding le lt eq of_bits
not_a_number = refl

negative : (t : Float) → lt t zero64 ≡ true → le zero64 t ≡ false
unfolding le
negative t h = rw (lt_turn t zero64 h) (go (eq zero64 t) refl)
  where
    go : (b : Bool) → eq zero64 t ≡ b → b ≡ false
    go true p = absurd (true≢false (sym h ∙ not_of_eq zero64 t p))
    go false p = refl

-- **exactly a NaN and what is below 0 are refused**
pub tolerance_refused_exactly : (tol : Float) → (tolerance_good tol ≡ false) ↔ ((tol ≡ nan) ⊎ (lt tol zero64 ≡ true))
unfolding tolerance_good
tolerance_refused_exactly tol = (only tol, ⊎_elim (λ (e : tol ≡ nan). ap (le zero64) e ∙ not_a_number) (negative tol))

-- **11 comes before 6**: whatever the lengths
pub fitting_11 : (tol : Float) (a wa b wb : ℕ) → tolerance_good tol ≡ false → fitting tol a wa b wb ≡ refused 11 0
unfolding fitting
fitting_11 tol a wa b wb g = rw g

-- a tolerance that is not refused leaves the lengths to decide
pub fitting_lengths : (tol : Float) (a wa b wb : ℕ) → tolerance_good tol ≡ true → fitting tol a wa b wb ≡ lengths a wa b wb 0 0
unfolding fitting
fitting_lengths tol a wa b wb g = rw g

pub fitting_right : (tol : Float) (a wa b wb : ℕ) → (fitting tol a wa b wb).answer ≡ 0 → (tolerance_good tol ≡ true) × (a ≡ wa) × (b ≡ wb)
unfolding fitting
fitting_right tol a wa b wb = go (tolerance_good tol) refl
  where
    go : (g : Bool) → tolerance_good tol ≡ g → (cond (not g) (refused 11 0) (lengths a wa b wb 0 0)).answer ≡ 0 → (tolerance_good tol ≡ true) × (a ≡ wa) × (b ≡ wb)
    go true g h =
        let w = lengths_right a wa b wb 0 0 h in
        (g, w.0, w.1)
    go false g h = absurd (omega arith)

-- ---- -0.0, which is neg zero64

pub zero_good : tolerance_good zero64 ≡ true
unfolding tolerance_good le lt eq of_bits
zero_good = refl

-- -0.0 is taken
pub minus_zero_good : tolerance_good (neg zero64) ≡ true
unfolding tolerance_good le lt eq neg of_bits
minus_zero_good = refl

-- a number is above -0.0 exactly where it is above 0
pub above_minus_zero : (x : Float) → lt (neg zero64) x ≡ lt zero64 x
unfolding lt neg of_bits
above_minus_zero nan = refl
above_minus_zero (inf t) = refl
above_minus_zero (fin true n d) = rw (zero-mul (down d)) (le-ltb (n * up d * 1) 0 (omega arith))
above_minus_zero (fin false n d) = rw (zero-mul (down d), zero-add (n * up d * 1))
