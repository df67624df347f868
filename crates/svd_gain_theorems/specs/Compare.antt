-- Numbers that are multiplied by one power of two compare as before, whatever they are: an infinity and a NaN stay what they are. Laws only.
use Rattle.std.specs.Prelude.{◌≡◌, Bool, true, false, ◌&&◌, ℕ, zero, suc, ◌+◌, ◌*◌, ◌^◌, ◌<◌, ltb, eqb, ℤ, pos, Float}
use Rattle.std.proofs.Math.Path.{refl, ap₂}
use Rattle.std.proofs.Common.{sym, ap, ◌∙◌, subst, mul_comm, mul_assoc, mul_left_comm, add-mul, mul-lt-mul_of_pos_right, lt_of_mul-lt-mul_right, mul-pos, zero-mul, arith, ltb-true, ltb-false, eqb-true, pow_pos}
use Rattle.std.proofs.Math.Bool.{◌||◌}
use Rattle.std.specs.Bool.{beq}
use Rattle.std.proofs.Math.Nat.{eq_of_mul-eq-mul_right}
use Rattle.std.proofs.lemmas.Bool.{eqb-false}
use Rattle.std.specs.Float.Ieee.{nan, up, down, neg, below, level, lt, eq, le}
use Rattle.std.specs.Float.{inf, fin}
use Rattle.std.specs.Float.Ieee.Fits.{down_pos}
use Rattle.leaves.specs.Leaf.{magnitude, is_finite}
use Rattle.svd_gain_theorems.specs.Scale.{moved, scale, is_zero}
use Rattle.svd_gain_theorems.specs.ScaleLaws.{moved_val}

-- ---- numbers times a fraction d / c

module _ (c d : ℕ) (C : 0 < c) (D : 0 < d) where
  lt_there : (a b a' b' : ℕ) → a' * c ≡ a * d → b' * c ≡ b * d → a < b → a' < b'
  lt_there a b a' b' p q h = lt_of_mul-lt-mul_right c (subst (λ (x : ℕ). x < b' * c) (sym p) (subst (λ (x : ℕ). a * d < x) (sym q) (mul-lt-mul_of_pos_right h D)))

  lt_back : (a b a' b' : ℕ) → a' * c ≡ a * d → b' * c ≡ b * d → a' < b' → a < b
  lt_back a b a' b' p q h = lt_of_mul-lt-mul_right d (subst (λ (x : ℕ). x < b * d) p (subst (λ (x : ℕ). a' * c < x) q (mul-lt-mul_of_pos_right h C)))

  pub ltb_same : (a b a' b' : ℕ) → a' * c ≡ a * d → b' * c ≡ b * d → ltb a' b' ≡ ltb a b
  ltb_same a b a' b' p q = go (ltb a b) refl (ltb a' b') refl
    where
      go : (x : Bool) → ltb a b ≡ x → (y : Bool) → ltb a' b' ≡ y → ltb a' b' ≡ ltb a b
      go true e true g = g ∙ sym e
      go true e false g = absurd (let h : a' < b' = lt_there a b a' b' p q (ltb-true a b e) in omega (arith, ltb-false a' b' g))
      go false e true g = absurd (let h : a < b = lt_back a b a' b' p q (ltb-true a' b' g) in omega (arith, ltb-false a b e))
      go false e false g = g ∙ sym e

  pub eqb_same : (a b a' b' : ℕ) → a' * c ≡ a * d → b' * c ≡ b * d → eqb a' b' ≡ eqb a b
  eqb_same a b a' b' p q = go (eqb a b) refl (eqb a' b') refl
    where
      go : (x : Bool) → eqb a b ≡ x → (y : Bool) → eqb a' b' ≡ y → eqb a' b' ≡ eqb a b
      go true e true g = g ∙ sym e
      go true e false g = absurd (eqb-false a' b' g (eq_of_mul-eq-mul_right c C a' b' (p ∙ ap (λ (x : ℕ). x * d) (eqb-true a b e) ∙ sym q)))
      go false e true g = absurd (eqb-false a b e (eq_of_mul-eq-mul_right d D a b (sym p ∙ ap (λ (x : ℕ). x * c) (eqb-true a' b' g) ∙ q)))
      go false e false g = g ∙ sym e

  below_same : (s t : Bool) (a b a' b' : ℕ) → a' * c ≡ a * d → b' * c ≡ b * d → below s a' t b' ≡ below s a t b
  below_same false false a b a' b' p q = ltb_same a b a' b' p q
  below_same false true a b a' b' p q = refl
  below_same true false a b a' b' p q =
      ltb_same 0 (a + b) 0 (a' + b') (zero-mul c ∙ sym (zero-mul d)) (add-mul a' b' c ∙ ap₂ ◌+◌ p q ∙ sym (add-mul a b d))
  below_same true true a b a' b' p q = ltb_same b a b' a' q p

  level_same : (s t : Bool) (a b a' b' : ℕ) → a' * c ≡ a * d → b' * c ≡ b * d → level s a' t b' ≡ level s a t b
  level_same s t a b a' b' p q =
      ap₂ (λ x y. x && (beq s t || y)) (eqb_same a b a' b' p q) (eqb_same a 0 a' 0 p (zero-mul c ∙ sym (zero-mul d)))

-- ---- the two numbers over one denominator

-- of a number a / e the scaled one is a' / e', and of b / d it is b' / d'
pub over_left : (p a e d a' e' d' : ℕ) → a' * e ≡ a * p * e' → a' * d' * (e * d) ≡ a * d * (p * (e' * d'))
over_left p a e d a' e' d' h = simp (mul_assoc, mul_comm, mul_left_comm) (simp (mul_assoc, mul_comm, mul_left_comm) at (ap (λ (z : ℕ). z * (d' * d)) h))

pub over_right : (p b d e b' d' e' : ℕ) → b' * d ≡ b * p * d' → b' * e' * (e * d) ≡ b * e * (p * (e' * d'))
over_right p b d e b' d' e' h = simp (mul_assoc, mul_comm, mul_left_comm) (simp (mul_assoc, mul_comm, mul_left_comm) at (ap (λ (z : ℕ). z * (e' * e)) h))

-- ---- the comparisons

module _ (k : ℕ) where
  den : (m n : ℕ) (e d : ℤ) → 0 < down e * down d
  den m n e d = mul-pos (down_pos e) (down_pos d)

  num : (m n : ℕ) (e d : ℤ) → 0 < 2 ^ k * (down (moved (pos k) m e) * down (moved (pos k) n d))
  num m n e d = mul-pos (pow_pos k) (mul-pos (down_pos (moved (pos k) m e)) (down_pos (moved (pos k) n d)))

  left : (m n : ℕ) (e d : ℤ)
      → m * up (moved (pos k) m e) * down (moved (pos k) n d) * (down e * down d)
      ≡ m * up e * down d * (2 ^ k * (down (moved (pos k) m e) * down (moved (pos k) n d)))
  left m n e d =
      over_left (2 ^ k) (m * up e) (down e) (down d) (m * up (moved (pos k) m e)) (down (moved (pos k) m e)) (down (moved (pos k) n d)) (moved_val k m e)

  right : (m n : ℕ) (e d : ℤ)
      → n * up (moved (pos k) n d) * down (moved (pos k) m e) * (down e * down d)
      ≡ n * up d * down e * (2 ^ k * (down (moved (pos k) m e) * down (moved (pos k) n d)))
  right m n e d =
      over_right (2 ^ k) (n * up d) (down d) (down e) (n * up (moved (pos k) n d)) (down (moved (pos k) n d)) (down (moved (pos k) m e)) (moved_val k n d)

  pub lt_scaled : (x y : Float) → lt (scale (pos k) x) (scale (pos k) y) ≡ lt x y
  unfolding lt scale
  lt_scaled nan y = refl
  lt_scaled (inf s) nan = refl
  lt_scaled (inf s) (inf t) = refl
  lt_scaled (inf s) (fin t n d) = refl
  lt_scaled (fin s m e) nan = refl
  lt_scaled (fin s m e) (inf t) = refl
  lt_scaled (fin s m e) (fin t n d) =
      below_same (down e * down d) (2 ^ k * (down (moved (pos k) m e) * down (moved (pos k) n d))) (den m n e d) (num m n e d) s t
      (m * up e * down d) (n * up d * down e) _ _ (left m n e d) (right m n e d)

  pub eq_scaled : (x y : Float) → eq (scale (pos k) x) (scale (pos k) y) ≡ eq x y
  unfolding eq scale
  eq_scaled nan y = refl
  eq_scaled (inf s) nan = refl
  eq_scaled (inf s) (inf t) = refl
  eq_scaled (inf s) (fin t n d) = refl
  eq_scaled (fin s m e) nan = refl
  eq_scaled (fin s m e) (inf t) = refl
  eq_scaled (fin s m e) (fin t n d) =
      level_same (down e * down d) (2 ^ k * (down (moved (pos k) m e) * down (moved (pos k) n d))) (den m n e d) (num m n e d) s t
      (m * up e * down d) (n * up d * down e) _ _ (left m n e d) (right m n e d)

  pub le_scaled : (x y : Float) → le (scale (pos k) x) (scale (pos k) y) ≡ le x y
  unfolding le
  le_scaled x y = ap₂ ◌||◌ (lt_scaled x y) (eq_scaled x y)

-- ---- sign and magnitude

pub neg_scaled : (k : ℤ) (x : Float) → neg (scale k x) ≡ scale k (neg x)
unfolding neg scale
neg_scaled k nan = refl
neg_scaled k (inf s) = refl
neg_scaled k (fin s m e) = refl

pub magnitude_scaled : (k : ℤ) (x : Float) → magnitude (scale k x) ≡ scale k (magnitude x)
unfolding magnitude scale
magnitude_scaled k nan = refl
magnitude_scaled k (inf s) = refl
magnitude_scaled k (fin s m e) = refl

pub finite_scaled : (k : ℤ) (x : Float) → is_finite (scale k x) ≡ is_finite x
unfolding is_finite scale
finite_scaled k nan = refl
finite_scaled k (inf s) = refl
finite_scaled k (fin s m e) = refl

pub is_zero_scaled : (k : ℤ) (x : Float) → is_zero (scale k x) ≡ is_zero x
unfolding is_zero scale
is_zero_scaled k nan = refl
is_zero_scaled k (inf s) = refl
is_zero_scaled k (fin s m e) = refl

pub zero_scaled : (k : ℤ) (x : Float) → is_zero x ≡ true → scale k x ≡ x
unfolding is_zero scale
zero_scaled k nan h = refl
zero_scaled k (inf s) h = refl
zero_scaled k (fin s zero e) h = refl
zero_scaled k (fin s (suc m) e) h = absurd (let z : suc m ≡ 0 = eqb-true (suc m) 0 h in omega arith)
