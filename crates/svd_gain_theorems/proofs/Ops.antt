-- One operation of binary64 on numbers that are multiplied by powers of two: the result is multiplied by the power that is due. Laws only.
use Rattle.std.specs.Prelude.{◌≡◌, refl, Bool, ◌||◌, ◌&&◌, leb, eqb, ℤ, pos, negsuc, Float}
use Rattle.std.proofs.Math.Path.{sym, ap₂}
use Rattle.std.proofs.Common.{ap, ◌∙◌, subst, subst₂, true≢false, one-mul, mul_comm, mul_assoc, mul_left_comm, add-mul, mul-pos, mul-le-mul_right, zero-mul, mul-zero, zero-add, lt_of_not-le, not-le_of_lt, arith, leb→le, eqb→eq, eqb-true, pow-add, pow_pos}
use Rattle.std.proofs.Math.Bool.{true, false, cond}
use Rattle.std.specs.Bool.{beq}
use Prim.Native.Nat.{ℕ, zero, suc, ◌+◌, ◌-◌, ◌*◌, ◌%◌, ◌^◌, ◌≤◌, ◌<◌}
use Rattle.std.proofs.Math.Nat.{mul-mul-mul_comm, mul-sub, eq_of_mul-eq-mul_right}
use Rattle.std.proofs.Math.Dec.{T, ltb}
use Rattle.std.proofs.lemmas.Bool.{eqb-false}
use Rattle.std.proofs.Math.Pow.{pow-lt}
use Rattle.std.specs.Float.{nan, inf, fin}
use Rattle.std.specs.Float.Ieee.{binary64, unlike, up, down, neg, round, sum, add, sub, mul, div, fits}
use Rattle.std.specs.Float.Ieee.Fits.{up_pos, down_pos, and_l, and_r, neg-fits}
use Rattle.std.specs.Float.Ieee.Scale.{round_same}
use Rattle.grid.specs.Real.{◌⊕◌, ◌⊖◌, ◌⊗◌, ◌⊘◌}
use Rattle.svd_gain_theorems.specs.Scale.{moved, scale, is_zero, fine, Scaled, Product, Quotient}
use Rattle.svd_gain_theorems.specs.ScaleLaws.{moved_val, scale_none}
use Rattle.svd_gain_theorems.proofs.Round.{fine_finite, round_scaled_at, round_some}
use Rattle.svd_gain_theorems.specs.Compare.{ltb_same, over_left, over_right, neg_scaled}

either : (a b : Bool) → (a || b) ≡ true → (a ≡ false → b ≡ true)
either true b e f = absurd (true≢false f)
either false b e f = e

is : (b : Bool) → T b → b ≡ true
is true t = refl
is false t = absurd t

bad : (b s : Bool) → T (fine (cond b nan (inf s))) → ⊥
unfolding fine
bad true s h = h
bad false s h = h

-- ---- the product

mul_cross : (p q a e b d a' e' b' d' : ℕ) → a' * e ≡ a * p * e' → b' * d ≡ b * q * d' → a' * b' * (e * d) ≡ a * b * (p * q) * (e' * d')
mul_cross p q a e b d a' e' b' d' g h =
    mul-mul-mul_comm a' b' e d
    ∙ ap₂ ◌*◌ g h
    ∙ mul-mul-mul_comm (a * p) e' (b * q) d'
    ∙ ap (λ (x : ℕ). x * (e' * d')) (mul-mul-mul_comm a p b q)

mul_at : (a b : ℕ) (x y : Float) → Product x y → T (fine (scale (pos a) x ⊗ scale (pos b) y)) → scale (pos a) x ⊗ scale (pos b) y ≡ scale (pos (a + b)) (x ⊗ y)
unfolding mul scale is_zero
mul_at a b nan y P f = refl
mul_at a b (inf s) nan P f = refl
mul_at a b (inf s) (inf t) P f = refl
mul_at a b (inf s) (fin t n d) P f = absurd (bad (eqb n 0) (unlike s t) P.good)
mul_at a b (fin s m e) nan P f = refl
mul_at a b (fin s m e) (inf t) P f = absurd (bad (eqb m 0) (unlike s t) P.good)
mul_at a b (fin s m e) (fin t n d) P f =
    round_scaled_at (unlike s t) (m * up e * (n * up d)) (down e * down d) (m * up e' * (n * up d')) (down e' * down d') (a + b)
    (mul-pos (down_pos e) (down_pos d)) (mul-pos (down_pos e') (down_pos d'))
    (mul_cross (2 ^ a) (2 ^ b) (m * up e) (down e) (n * up d) (down d) (m * up e') (down e') (n * up d') (down d') (moved_val a m e) (moved_val b n d)
    ∙ ap (λ (x : ℕ). m * up e * (n * up d) * x * (down e' * down d')) (sym (pow-add 2 a b)))
    P.good (λ z. none (eqb m 0) refl (P.zeros (is _ z))) (fine_finite _ f)
  where
    e' : ℤ
    e' = moved (pos a) m e

    d' : ℤ
    d' = moved (pos b) n d

    none : (v : Bool) → eqb m 0 ≡ v → (is_zero (fin s m e) || is_zero (fin t n d)) ≡ true → m * up e * (n * up d) ≡ 0
    none true g h = rw (eqb-true m 0 g) (simp zero-mul)
    none false g h = rw (eqb-true n 0 (either (eqb m 0) (eqb n 0) h g)) (simp (zero-mul, mul-zero))

pub mul_scaled : (a b : ℕ) (x y : Float) {x' y' : Float} → Scaled a x x' → Scaled b y y' → Product x y → Product x' y' → Scaled (a + b) (x ⊗ y) (x' ⊗ y')
mul_scaled a b x y {x'} {y'} p q P P' =
    ap₂ ◌⊗◌ p q ∙ mul_at a b x y P (subst₂ (λ (u v : Float). T (fine (u ⊗ v))) p q P'.good)

-- a factor that is the same in both
pub mul_same : (b : ℕ) (x y : Float) {y' : Float} → Scaled b y y' → Product x y → Product x y' → Scaled b (x ⊗ y) (x ⊗ y')
mul_same b x y {y'} q P P' =
    subst (λ (n : ℕ). Scaled n (x ⊗ y) (x ⊗ y')) (zero-add b) (mul_scaled 0 b x y (sym (scale_none x)) q P P')

-- ---- the quotient

swap : (a d b e : ℕ) → a * d * (b * e) ≡ a * e * (b * d)
swap a d b e = simp (mul_assoc, mul_comm, mul_left_comm)

div_cross : (r q a e b d a' e' b' d' : ℕ) → a' * e ≡ a * (r * q) * e' → b' * d ≡ b * q * d' → a' * d' * (b * e) ≡ a * d * r * (b' * e')
div_cross r q a e b d a' e' b' d' g h =
    let l : a' * d' * (b * e) ≡ a * (r * q) * e' * (b * d') = swap a' d' b e ∙ ap (λ (x : ℕ). x * (b * d')) g in
    let j : a * d * r * (b' * e') ≡ a * r * e' * (b' * d) = simp (mul_assoc, mul_comm, mul_left_comm) in
    let i : a * (r * q) * e' * (b * d') ≡ a * r * e' * (b * q * d') = simp (mul_assoc, mul_comm, mul_left_comm) in
    l ∙ i ∙ sym (j ∙ ap (λ (x : ℕ). a * r * e' * x) h)

-- both by the same power: the same quotient, whatever the two are
same_cross : (p a e b d a' e' b' d' : ℕ) → a' * e ≡ a * p * e' → b' * d ≡ b * p * d' → a' * d' * (b * e) ≡ a * d * (b' * e')
same_cross p a e b d a' e' b' d' g h =
    let l : a' * d' * (b * e) ≡ a * p * e' * (b * d') = swap a' d' b e ∙ ap (λ (x : ℕ). x * (b * d')) g in
    let r : a * d * (b' * e') ≡ a * e' * (b * p * d') = swap a d b' e' ∙ ap (λ (x : ℕ). a * e' * x) h in
    let i : a * p * e' * (b * d') ≡ a * e' * (b * p * d') = simp (mul_assoc, mul_comm, mul_left_comm) in
    l ∙ i ∙ sym r

div_at : (k : ℕ) (x y : Float) → scale (pos k) x ⊘ scale (pos k) y ≡ x ⊘ y
unfolding div scale
div_at k nan y = refl
div_at k (inf s) nan = refl
div_at k (inf s) (inf t) = refl
div_at k (inf s) (fin t n d) = refl
div_at k (fin s m e) nan = refl
div_at k (fin s m e) (inf t) = refl
div_at k (fin s m e) (fin t n d) = go (eqb n 0) refl
  where
    e' : ℤ
    e' = moved (pos k) m e

    d' : ℤ
    d' = moved (pos k) n d

    go : (b : Bool) → eqb n 0 ≡ b
        → cond (eqb n 0) (cond (eqb m 0) nan (inf (unlike s t))) (round binary64 (unlike s t) (m * up e' * down d') (n * up d' * down e'))
        ≡ cond (eqb n 0) (cond (eqb m 0) nan (inf (unlike s t))) (round binary64 (unlike s t) (m * up e * down d) (n * up d * down e))
    go true g = rw g
    go false g =
        let h : 0 < n = omega (arith, eqb-false n 0 g) in
        rw g
        (round_same binary64 (unlike s t) (m * up e' * down d') (n * up d' * down e') (m * up e * down d) (n * up d * down e)
        (mul-pos (mul-pos h (up_pos d')) (down_pos e')) (mul-pos (mul-pos h (up_pos d)) (down_pos e))
        (same_cross (2 ^ k) (m * up e) (down e) (n * up d) (down d) (m * up e') (down e') (n * up d') (down d') (moved_val k m e) (moved_val k n d)))

pub div_same : (k : ℕ) (x y : Float) {x' y' : Float} → Scaled k x x' → Scaled k y y' → x' ⊘ y' ≡ x ⊘ y
div_same k x y p q = ap₂ ◌⊘◌ p q ∙ div_at k x y

-- by two powers, the lower by the greater
bad_two : (b c s : Bool) (x : Float) → T (fine (cond b (cond c nan (inf s)) x)) → b ≡ false
unfolding fine
bad_two true true s x h = absurd h
bad_two true false s x h = absurd h
bad_two false c s x h = refl

div_by : (a b : ℕ) (x y : Float) → Quotient x y → T (fine (scale (pos (a + b)) x ⊘ scale (pos b) y)) → scale (pos (a + b)) x ⊘ scale (pos b) y ≡ scale (pos a) (x ⊘ y)
unfolding div scale is_zero
div_by a b nan y Q f = refl
div_by a b (inf s) nan Q f = refl
div_by a b (inf s) (inf t) Q f = refl
div_by a b (inf s) (fin t n d) Q f = refl
div_by a b (fin s m e) nan Q f = refl
div_by a b (fin s m e) (inf t) Q f = refl
div_by a b (fin s m e) (fin t n d) Q f = go Q.good (λ z. eqb-true m 0 (Q.zeros z)) f
  where
    e' : ℤ
    e' = moved (pos (a + b)) m e

    d' : ℤ
    d' = moved (pos b) n d

    q : Float
    q = round binary64 (unlike s t) (m * up e * down d) (n * up d * down e)

    q' : Float
    q' = round binary64 (unlike s t) (m * up e' * down d') (n * up d' * down e')

    go : T (fine (cond (eqb n 0) (cond (eqb m 0) nan (inf (unlike s t))) q)) → (is_zero (cond (eqb n 0) (cond (eqb m 0) nan (inf (unlike s t))) q) ≡ true → m ≡ 0)
        → T (fine (cond (eqb n 0) (cond (eqb m 0) nan (inf (unlike s t))) q'))
        → cond (eqb n 0) (cond (eqb m 0) nan (inf (unlike s t))) q' ≡ scale (pos a) (cond (eqb n 0) (cond (eqb m 0) nan (inf (unlike s t))) q)
    go g z f =
        let o : eqb n 0 ≡ false = bad_two (eqb n 0) (eqb m 0) (unlike s t) q g in
        let h : 0 < n = omega (arith, eqb-false n 0 o) in
        rw o
        (round_scaled_at (unlike s t) (m * up e * down d) (n * up d * down e) (m * up e' * down d') (n * up d' * down e') a
        (mul-pos (mul-pos h (up_pos d)) (down_pos e)) (mul-pos (mul-pos h (up_pos d')) (down_pos e'))
        (div_cross (2 ^ a) (2 ^ b) (m * up e) (down e) (n * up d) (down d) (m * up e') (down e') (n * up d') (down d')
        (moved_val (a + b) m e ∙ ap (λ (x : ℕ). m * up e * x * down e') (pow-add 2 a b)) (moved_val b n d))
        (rw o at g) (λ w. zero (rw o at z) (is _ w)) (fine_finite _ (rw o at f)))
      where
        zero : (is_zero q ≡ true → m ≡ 0) → is_zero q ≡ true → m * up e * down d ≡ 0
        zero z w = rw (z w) (simp zero-mul)

pub div_scaled : (a b : ℕ) (x y : Float) {x' y' : Float} → Scaled (a + b) x x' → Scaled b y y' → Quotient x y → Quotient x' y' → Scaled a (x ⊘ y) (x' ⊘ y')
div_scaled a b x y p q Q Q' =
    ap₂ ◌⊘◌ p q ∙ div_by a b x y Q (subst₂ (λ (u v : Float). T (fine (u ⊘ v))) p q Q'.good)

-- ---- the sum

-- a whole number of units that rounds to zero is zero
pub exact : (s : Bool) (z Z c : ℕ) → 0 < c → z * 2 ^ 1074 ≡ Z * c → T (is_zero (round binary64 s z c)) → z ≡ 0
exact s z zero c C h t = eq_of_mul-eq-mul_right (2 ^ 1074) (pow_pos 1074) z 0 (h ∙ zero-mul c ∙ sym (zero-mul (2 ^ 1074)))
exact s z (suc Z) c C h t =
    let one : 1 * c ≤ suc Z * c = mul-le-mul_right c (omega arith) in
    let low : c ≤ z * 2 ^ 1074 = subst (λ (x : ℕ). c ≤ x) (sym h) (subst (λ (x : ℕ). x ≤ suc Z * c) (one-mul c) one) in
    absurd (true≢false (sym (is _ t) ∙ round_some s z c C low))

module _ (k c c' : ℕ) (C : 0 < c) (C' : 0 < c') where
  part : (s : Bool) (z Z z' : ℕ) → z' * c ≡ z * (2 ^ k * c') → z * 2 ^ 1074 ≡ Z * c → T (fine (round binary64 s z c)) → T (fine (round binary64 s z' c'))
      → round binary64 s z' c' ≡ scale (pos k) (round binary64 s z c)
  part s z Z z' h u f g = round_scaled_at s z c z' c' k C C' (h ∙ sym (mul_assoc z (2 ^ k) c')) f (exact s z Z c C u) (fine_finite _ g)

  diff : (a b e : ℕ) → (a - b) * e ≡ a * e - b * e
  diff a b e = mul_comm (a - b) e ∙ mul-sub e a b ∙ ap₂ ◌-◌ (mul_comm e a) (mul_comm e b)

  minus_part : (a b a' b' : ℕ) → a' * c ≡ a * (2 ^ k * c') → b' * c ≡ b * (2 ^ k * c') → (a' - b') * c ≡ (a - b) * (2 ^ k * c')
  minus_part a b a' b' p q = diff a' b' c ∙ ap₂ ◌-◌ p q ∙ sym (diff a b (2 ^ k * c'))

  minus_units : (a b A B : ℕ) → a * 2 ^ 1074 ≡ A * c → b * 2 ^ 1074 ≡ B * c → (a - b) * 2 ^ 1074 ≡ (A - B) * c
  minus_units a b A B p q = diff a b (2 ^ 1074) ∙ ap₂ ◌-◌ p q ∙ sym (diff A B c)

  sum_scaled : (s t : Bool) (a b A B a' b' : ℕ) → a' * c ≡ a * (2 ^ k * c') → b' * c ≡ b * (2 ^ k * c') → a * 2 ^ 1074 ≡ A * c → b * 2 ^ 1074 ≡ B * c
      → T (fine (sum binary64 s a t b c)) → T (fine (sum binary64 s a' t b' c')) → sum binary64 s a' t b' c' ≡ scale (pos k) (sum binary64 s a t b c)
  unfolding sum
  sum_scaled s t a b A B a' b' p q u v f g =
      go (beq s t) (ltb a b) (ltb b a) (ltb_same c (2 ^ k * c') C (mul-pos (pow_pos k) C') a b a' b' p q)
      (ltb_same c (2 ^ k * c') C (mul-pos (pow_pos k) C') b a b' a' q p) f g
    where
      go : (x y z : Bool) → ltb a' b' ≡ y → ltb b' a' ≡ z
          → T (fine (cond x (round binary64 s (a + b) c) (cond y (round binary64 t (b - a) c) (round binary64 (s && z) (a - b) c))))
          → T (fine (cond x (round binary64 s (a' + b') c') (cond (ltb a' b') (round binary64 t (b' - a') c') (round binary64 (s && ltb b' a') (a' - b') c'))))
          → cond x (round binary64 s (a' + b') c') (cond (ltb a' b') (round binary64 t (b' - a') c') (round binary64 (s && ltb b' a') (a' - b') c'))
          ≡ scale (pos k) (cond x (round binary64 s (a + b) c) (cond y (round binary64 t (b - a) c) (round binary64 (s && z) (a - b) c)))
      go true y z m n f g =
          part s (a + b) (A + B) (a' + b') (add-mul a' b' c ∙ ap₂ ◌+◌ p q ∙ sym (add-mul a b (2 ^ k * c')))
          (add-mul a b (2 ^ 1074) ∙ ap₂ ◌+◌ u v ∙ sym (add-mul A B c)) f g
      go false true z m n f g =
          rw m (part t (b - a) (B - A) (b' - a') (minus_part b a b' a' q p) (minus_units b a B A v u) f (rw m at g))
      go false false z m n f g =
          rw (m, n) (part (s && z) (a - b) (A - B) (a' - b') (minus_part a b a' b' p q) (minus_units a b A B u v) f (rw (m, n) at g))

-- a double is a whole number of units
pub lower : (j : ℕ) → 2 ^ suc j ≤ 2 ^ 1074 → suc j ≤ 1074
lower j h = le_of_suc_le_suc' (lt_of_not-le (λ (g : suc 1074 ≤ suc j). not-le_of_lt (pow-lt g) h))
  where
    le_of_suc_le_suc' : suc j < suc 1074 → suc j ≤ 1074
    le_of_suc_le_suc' h = omega arith

pub units_of : (e : ℤ) → down e ≤ 2 ^ 1074 → (r : ℕ) × (down e * r ≡ 2 ^ 1074)
units_of (pos j) h = (2 ^ 1074, one-mul (2 ^ 1074))
units_of (negsuc j) h =
    let g : suc j ≤ 1074 = lower j h in
    let i : suc j + (1074 - suc j) ≡ 1074 = omega arith in
    (2 ^ (1074 - suc j), sym (pow-add 2 (suc j) (1074 - suc j)) ∙ ap (λ (x : ℕ). 2 ^ x) i)

pub fits_low : (s : Bool) (m : ℕ) (e : ℤ) → T (fits binary64 (fin s m e)) → down e ≤ 2 ^ 1074
unfolding fits
fits_low s zero e h = flat e (eqb→eq (up e * down e) 1 h)
  where
    flat : (e : ℤ) → up e * down e ≡ 1 → down e ≤ 2 ^ 1074
    flat (pos j) g = pow_pos 1074
    flat (negsuc j) g =
        let o : 2 ^ suc j ≡ 1 = sym (one-mul (2 ^ suc j)) ∙ g in
        subst (λ (x : ℕ). x ≤ 2 ^ 1074) (sym o) (pow_pos 1074)
fits_low s (suc m) e h =
    leb→le (down e) (2 ^ 1074) (and_r (eqb (suc m % 2) 1 && ltb (suc m) (2 ^ 53)) (leb (down e) (2 ^ 1074)) (and_l (eqb (suc m % 2) 1 && ltb (suc m) (2 ^ 53) && leb (down e) (2 ^ 1074)) (ltb (suc m * up e) (2 ^ 1024 * down e)) h))

pub left_units : (a e d r u : ℕ) → e * r ≡ u → a * d * u ≡ a * r * (e * d)
left_units a e d r u h = ap (λ (x : ℕ). a * d * x) (sym h) ∙ simp (mul_assoc, mul_comm, mul_left_comm)

pub right_units : (b d e r u : ℕ) → d * r ≡ u → b * e * u ≡ b * r * (e * d)
right_units b d e r u h = ap (λ (x : ℕ). b * e * x) (sym h) ∙ simp (mul_assoc, mul_comm, mul_left_comm)

add_at : (k : ℕ) (x y : Float) → T (fits binary64 x) → T (fits binary64 y) → T (fine (x ⊕ y)) → T (fine (scale (pos k) x ⊕ scale (pos k) y))
    → scale (pos k) x ⊕ scale (pos k) y ≡ scale (pos k) (x ⊕ y)
unfolding add scale
add_at k nan y F G f g = refl
add_at k (inf s) nan F G f g = refl
add_at k (inf s) (inf t) F G f g = both (beq s t)
  where
    both : (b : Bool) → cond b (inf s) nan ≡ scale (pos k) (cond b (inf s) nan)
    both true = refl
    both false = refl
add_at k (inf s) (fin t n d) F G f g = refl
add_at k (fin s m e) nan F G f g = refl
add_at k (fin s m e) (inf t) F G f g = refl
add_at k (fin s m e) (fin t n d) F G f g =
    let e' = moved (pos k) m e in
    let d' = moved (pos k) n d in
    let r = units_of e (fits_low s m e F) in
    let q = units_of d (fits_low t n d G) in
    sum_scaled k (down e * down d) (down e' * down d') (mul-pos (down_pos e) (down_pos d)) (mul-pos (down_pos e') (down_pos d')) s t
    (m * up e * down d) (n * up d * down e) (m * up e * r.0) (n * up d * q.0) (m * up e' * down d') (n * up d' * down e')
    (over_left (2 ^ k) (m * up e) (down e) (down d) (m * up e') (down e') (down d') (moved_val k m e))
    (over_right (2 ^ k) (n * up d) (down d) (down e) (n * up d') (down d') (down e') (moved_val k n d))
    (left_units (m * up e) (down e) (down d) r.0 (2 ^ 1074) r.1)
    (right_units (n * up d) (down d) (down e) q.0 (2 ^ 1074) q.1) f g

pub add_scaled : (k : ℕ) (x y : Float) {x' y' : Float} → Scaled k x x' → Scaled k y y' → T (fits binary64 x) → T (fits binary64 y)
    → T (fine (x ⊕ y)) → T (fine (x' ⊕ y')) → Scaled k (x ⊕ y) (x' ⊕ y')
add_scaled k x y p q F G f g = ap₂ ◌⊕◌ p q ∙ add_at k x y F G f (subst₂ (λ (u v : Float). T (fine (u ⊕ v))) p q g)

-- ---- the difference

pub sub_scaled : (k : ℕ) (x y : Float) {x' y' : Float} → Scaled k x x' → Scaled k y y' → T (fits binary64 x) → T (fits binary64 y)
    → T (fine (x ⊖ y)) → T (fine (x' ⊖ y')) → Scaled k (x ⊖ y) (x' ⊖ y')
unfolding sub
sub_scaled k x y p q F G f g = add_scaled k x (neg y) p (ap neg q ∙ neg_scaled (pos k) y) F (neg-fits binary64 y G) f g
