-- Whole numbers with a sign, times a number that has none; and such a number as a double. Laws only.
use Rattle.std.specs.Prelude.{◌≡◌, refl, Bool, true, false, ◌||◌, ℕ, zero, suc, ◌+◌, ◌*◌, ◌^◌, ◌≤◌, ◌<◌, T, ltb, eqb, ℤ, pos, negsuc, nat_abs, neg_ℤ, ◌+ℤ◌, ◌*ℤ◌, Float}
use Rattle.std.proofs.Common.{sym, ap, ap₂, ◌∙◌, subst, mul-one, mul_assoc, mul_comm, mul-pos, mul-le-mul_right, one-mul, pow-suc, arith, lt→ltb, lit<, pow-add, pow_pos}
use Rattle.std.proofs.Math.Nat.{mul-lt-mul_of_pos_left}
use Rattle.std.proofs.Math.IntN.{zero-*ℤ, suc_ℤ-*ℤ, *ℤ_comm, +ℤ_assoc, +ℤ_comm, neg_ℤ-+ℤ, neg_ℤ-neg_ℤ}
use Rattle.std.specs.Float.{nan, inf, fin, binary64}
use Rattle.std.specs.Float.Ieee.{up, down, round, of_int}
use Rattle.std.specs.Float.Ieee.Exact.{HasValue}
use Rattle.std.specs.Float.Ieee.Fits.{down_pos}
use Rattle.std.specs.Float.Ieee.Back.{round_whole}
use Rattle.std.specs.Float.Ieee.Scale.{finite}
use Rattle.svd_gain_theorems.specs.Scale.{scale, fine}
use Rattle.svd_gain_theorems.proofs.Round.{round_scaled_at, round_zero, round_some}

-- ---- sums and products

swap_sums : (a b c d : ℤ) → a +ℤ b +ℤ (c +ℤ d) ≡ a +ℤ c +ℤ (b +ℤ d)
swap_sums a b c d =
    +ℤ_assoc a b (c +ℤ d)
    ∙ ap (λ (x : ℤ). a +ℤ x) (sym (+ℤ_assoc b c d) ∙ ap (λ (x : ℤ). x +ℤ d) (+ℤ_comm b c) ∙ +ℤ_assoc c b d)
    ∙ sym (+ℤ_assoc a c (b +ℤ d))

pub times_sum : (c : ℕ) (a b : ℤ) → pos c *ℤ (a +ℤ b) ≡ pos c *ℤ a +ℤ pos c *ℤ b
times_sum zero a b = zero-*ℤ (a +ℤ b) ∙ sym (ap₂ ◌+ℤ◌ (zero-*ℤ a) (zero-*ℤ b))
times_sum (suc c) a b =
    suc_ℤ-*ℤ (pos c) (a +ℤ b)
    ∙ ap (λ (x : ℤ). x +ℤ (a +ℤ b)) (times_sum c a b)
    ∙ swap_sums (pos c *ℤ a) (pos c *ℤ b) a b
    ∙ sym (ap₂ ◌+ℤ◌ (suc_ℤ-*ℤ (pos c) a) (suc_ℤ-*ℤ (pos c) b))

-- a negative factor
less_factor : (n : ℕ) (z : ℤ) → negsuc n *ℤ z ≡ neg_ℤ (pos (suc n) *ℤ z)
less_factor n (pos m) = refl
less_factor n (negsuc m) = sym (neg_ℤ-neg_ℤ (pos (suc n * suc m)))

factor_sum : (z a b : ℤ) → z *ℤ (a +ℤ b) ≡ z *ℤ a +ℤ z *ℤ b
factor_sum (pos c) a b = times_sum c a b
factor_sum (negsuc c) a b =
    less_factor c (a +ℤ b)
    ∙ ap neg_ℤ (times_sum (suc c) a b)
    ∙ neg_ℤ-+ℤ (pos (suc c) *ℤ a) (pos (suc c) *ℤ b)
    ∙ sym (ap₂ ◌+ℤ◌ (less_factor c a) (less_factor c b))

pub times_product : (c : ℕ) (a b : ℤ) → pos c *ℤ (a *ℤ b) ≡ pos c *ℤ a *ℤ b
times_product zero a b = zero-*ℤ (a *ℤ b) ∙ sym (ap (λ (x : ℤ). x *ℤ b) (zero-*ℤ a) ∙ zero-*ℤ b)
times_product (suc c) a b =
    suc_ℤ-*ℤ (pos c) (a *ℤ b)
    ∙ ap (λ (x : ℤ). x +ℤ a *ℤ b) (times_product c a b)
    ∙ ap₂ ◌+ℤ◌ (*ℤ_comm (pos c *ℤ a) b) (*ℤ_comm a b)
    ∙ sym (factor_sum b (pos c *ℤ a) a)
    ∙ *ℤ_comm b (pos c *ℤ a +ℤ a)
    ∙ ap (λ (x : ℤ). x *ℤ b) (sym (suc_ℤ-*ℤ (pos c) a))

-- each factor times c
pub times_both : (c : ℕ) (a b : ℤ) → (pos c *ℤ a) *ℤ (pos c *ℤ b) ≡ pos (c * c) *ℤ (a *ℤ b)
times_both c a b =
    sym (times_product c a (pos c *ℤ b))
    ∙ ap (λ (x : ℤ). pos c *ℤ x) (*ℤ_comm a (pos c *ℤ b) ∙ sym (times_product c b a) ∙ ap (λ (x : ℤ). pos c *ℤ x) (*ℤ_comm b a))
    ∙ times_product c (pos c) (a *ℤ b)

nat_abs_neg : (n : ℕ) → nat_abs (neg_ℤ (pos n)) ≡ n
nat_abs_neg zero = refl
nat_abs_neg (suc n) = refl

pub times_size : (c : ℕ) (z : ℤ) → nat_abs (pos c *ℤ z) ≡ c * nat_abs z
times_size c (pos m) = refl
times_size c (negsuc m) = nat_abs_neg (c * suc m)

pub times_neg : (c : ℕ) (z : ℤ) → pos c *ℤ neg_ℤ z ≡ neg_ℤ (pos c *ℤ z)
times_neg c (pos zero) = ap pos (mul_zero' c) ∙ sym (ap (λ (n : ℕ). neg_ℤ (pos n)) (mul_zero' c))
  where
    mul_zero' : (c : ℕ) → c * 0 ≡ 0
    mul_zero' c = omega arith
times_neg c (pos (suc m)) = refl
times_neg c (negsuc m) = sym (neg_ℤ-neg_ℤ (pos (c * suc m)))

pub four_power : (k : ℕ) → 4 ^ k ≡ 2 ^ (k + k)
four_power zero = refl
four_power (suc k) =
    let i : suc k + suc k ≡ 2 + (k + k) = omega arith in
    sym (ap (λ (j : ℕ). 2 ^ j) i ∙ pow-add 2 2 (k + k) ∙ ap (λ (x : ℕ). 4 * x) (sym (four_power k)) ∙ sym (pow-suc 4 k ∙ mul_comm (4 ^ k) 4))

-- ---- a whole number up to 2 ^ 53 as a double

value_fine : (x : Float) (s : Bool) (a : ℕ) → 0 < a → HasValue x s a 1 → T (fine x)
unfolding fine
value_fine nan s a A v = v
value_fine (inf t) s a A v = v
value_fine (fin t zero e) s a A v = tt
value_fine (fin t (suc m) e) s a A v =
    let p : suc m * up e ≡ a * down e = sym (mul-one (suc m * up e)) ∙ v.1 in
    or_right (eqb (suc m) 0) (ltb (down e) (suc m * up e * 2 ^ 1022)) (lt→ltb (down e) (suc m * up e * 2 ^ 1022) (subst (λ (x : ℕ). down e < x * 2 ^ 1022) (sym p) (big a (down e) (2 ^ 1022) A (down_pos e) (lit< tt))))
  where
    or_right : (a b : Bool) → T b → T (a || b)
    or_right true b t = tt
    or_right false b t = t

    big : (a d P : ℕ) → 0 < a → 0 < d → 1 < P → d < a * d * P
    big (suc a) d P A D h =
        let one : d * 1 < d * P = mul-lt-mul_of_pos_left h D in
        let more : 1 * (d * P) ≤ suc a * (d * P) = mul-le-mul_right (d * P) (omega arith) in
        let q : suc a * d * P ≡ suc a * (d * P) = mul_assoc (suc a) d P in
        omega (arith, mul-one d, one-mul (d * P))
    big zero d P A D h = absurd (omega arith)

value_finite : (x : Float) (s : Bool) (a : ℕ) → HasValue x s a 1 → T (finite x)
value_finite nan s a v = v
value_finite (inf t) s a v = v
value_finite (fin t m e) s a v = tt

round_louder : (s : Bool) (t m : ℕ) → 2 ^ t * suc m ≤ 2 ^ 53 → suc m ≤ 2 ^ 53 → round binary64 s (2 ^ t * suc m) 1 ≡ scale (pos t) (round binary64 s (suc m) 1)
round_louder s t m H h =
    round_scaled_at s (suc m) 1 (2 ^ t * suc m) 1 t (omega arith) (omega arith) (ap (λ (x : ℕ). x * 1) (mul_comm (2 ^ t) (suc m)))
    (value_fine (round binary64 s (suc m) 1) s (suc m) (omega arith) (round_whole binary64 s (suc m) h))
    (λ z. absurd (subst T (round_some s (suc m) 1 (omega arith) (mul-pos (omega arith) (pow_pos 1074))) z))
    (value_finite (round binary64 s (2 ^ t * suc m) 1) s (2 ^ t * suc m) (round_whole binary64 s (2 ^ t * suc m) H))

pub of_int_louder : (t : ℕ) (z : ℤ) → nat_abs (pos (2 ^ t) *ℤ z) ≤ 2 ^ 53 → nat_abs z ≤ 2 ^ 53 → of_int binary64 (pos (2 ^ t) *ℤ z) ≡ scale (pos t) (of_int binary64 z)
unfolding of_int scale
of_int_louder t (pos zero) H h =
    ap (λ (n : ℕ). round binary64 false n 1) (none t) ∙ round_zero false 1 (omega arith) ∙ ap (scale (pos t)) (sym (round_zero false 1 (omega arith)))
  where
    none : (t : ℕ) → 2 ^ t * 0 ≡ 0
    none t = omega arith
of_int_louder t (pos (suc m)) H h = round_louder false t m H h
of_int_louder t (negsuc m) H h =
    go (2 ^ t * suc m) refl (mul-pos (pow_pos t) (omega arith)) ∙ round_louder true t m (subst (λ (x : ℕ). x ≤ 2 ^ 53) (nat_abs_neg (2 ^ t * suc m)) H) h
  where
    go : (n : ℕ) → n ≡ 2 ^ t * suc m → 0 < n → of_int binary64 (neg_ℤ (pos n)) ≡ round binary64 true n 1
    go zero e p = absurd (omega arith)
    go (suc n) e p = refl
