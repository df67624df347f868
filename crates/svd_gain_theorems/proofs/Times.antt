-- `scale` is what a multiplication does: x times the number 2 ^ k, rounded, is `scale k x` exactly, where that is a double. Laws only.
use Rattle.std.specs.Prelude.{◌≡◌, refl, Bool, true, false, ◌&&◌, ℕ, zero, suc, ◌+◌, ◌-◌, ◌*◌, ◌%◌, ◌^◌, ◌≤◌, ◌<◌, T, ltb, leb, eqb, ℤ, pos, negsuc, ◌+ℤ◌, Float}
use Rattle.std.proofs.Common.{sym, ap, ◌∙◌, subst, one-mul, mul-one, mul_comm, mul_assoc, mul_right_comm, mul-pos, zero-mul, mul-lt-mul_of_pos_right, lt_of_mul-lt-mul_right, arith, ltb→lt, eqb→eq, pow-add, pow_pos}
use Rattle.std.proofs.Math.IntN.{+ℤ-neg_ℤ_cancel}
use Rattle.std.proofs.Math.Pow.{pow-lt}
use Rattle.std.specs.Float.{nan, inf, fin, binary64}
use Rattle.std.specs.Float.Ieee.{unlike, up, down, round, mul, fits}
use Rattle.std.specs.Float.Ieee.Exact.{HasValue, round_exact}
use Rattle.std.specs.Float.Ieee.Fits.{down_pos, and_l, and_r, round-fits}
use Rattle.std.specs.Float.Ieee.Scale.{round_same}
use Rattle.grid.specs.Real.{◌⊗◌}
use Rattle.root.proofs.Worked.{units_are, units_inj}
use Rattle.svd_gain_theorems.specs.Scale.{scale}
use Rattle.svd_gain_theorems.specs.ScaleLaws.{shift}
use Rattle.svd_gain_theorems.proofs.Ops.{lower, fits_low}
use Rattle.svd_gain_theorems.proofs.RootScaled.{fits_high}
use Rattle.svd_gain_theorems.proofs.Round.{round_zero}

-- ---- a double's own fraction rounds to it

-- how many digits stand above the last place: 2 ^ e is 2 ^ j units
lifted : (e : ℤ) → down e ≤ 2 ^ 1074 → (j : ℕ) × (up e * 2 ^ 1074 ≡ 2 ^ j * down e)
lifted (pos i) h = (i + 1074, sym (pow-add 2 i 1074) ∙ sym (mul-one (2 ^ (i + 1074))))
lifted (negsuc i) h =
    let g : suc i ≤ 1074 = lower i h in
    let o : 1074 - suc i + suc i ≡ 1074 = omega arith in
    (1074 - suc i, one-mul (2 ^ 1074) ∙ sym (ap (λ (x : ℕ). 2 ^ x) o) ∙ pow-add 2 (1074 - suc i) (suc i))

significand : Float → ℕ
significand (fin s m e) = m
significand nan = 0
significand (inf s) = 0

exponent : Float → ℤ
exponent (fin s m e) = e
exponent nan = pos 0
exponent (inf s) = pos 0

-- one double at most has a value
only : (x : Float) (s : Bool) (m : ℕ) (e : ℤ) (g : ℕ) → T (fits binary64 x) → HasValue x s g (2 ^ 1074) → T (fits binary64 (fin s m e)) → m * up e * 2 ^ 1074 ≡ g * down e → x ≡ fin s m e
unfolding fits significand exponent
only nan s m e g f v F w = absurd v
only (inf t) s m e g f v F w = absurd v
only (fin t n d) s m e g f v F w =
    let same : fin false n d ≡ fin false m e =
    units_inj (fin false n d) (fin false m e) f tt F tt (units_are (fin false n d) false g (refl, v.1) ∙ sym (units_are (fin false m e) false g (refl, w))) in
    (λ i. fin (v.0 i) (significand (same i)) (exponent (same i)))

own : (s : Bool) (m : ℕ) (e : ℤ) → T (fits binary64 (fin s (suc m) e)) → round binary64 s (suc m * up e) (down e) ≡ fin s (suc m) e
unfolding fits
own s m e F =
    let l = lifted e (fits_low s (suc m) e F) in
    let g = suc m * 2 ^ l.0 in
    let u : suc m * up e * 2 ^ 1074 ≡ g * down e = mul_assoc (suc m) (up e) (2 ^ 1074) ∙ ap (λ (x : ℕ). suc m * x) l.1 ∙ sym (mul_assoc (suc m) (2 ^ l.0) (down e)) in
    let low = and_l (eqb (suc m % 2) 1 && ltb (suc m) (2 ^ 53) && leb (down e) (2 ^ 1074)) (ltb (suc m * up e) (2 ^ 1024 * down e)) F in
    let short : suc m < 2 ^ 53 = ltb→lt (suc m) (2 ^ 53) (and_r (eqb (suc m % 2) 1) (ltb (suc m) (2 ^ 53)) (and_l (eqb (suc m % 2) 1 && ltb (suc m) (2 ^ 53)) (leb (down e) (2 ^ 1074)) low)) in
    let under : g < 2 ^ 2098 =
    lt_of_mul-lt-mul_right (down e)
    (subst (λ (x : ℕ). x < 2 ^ 2098 * down e) u
    (subst (λ (x : ℕ). suc m * up e * 2 ^ 1074 < x) (mul_right_comm (2 ^ 1024) (down e) (2 ^ 1074) ∙ ap (λ (x : ℕ). x * down e) (sym (pow-add 2 1024 1074)))
    (mul-lt-mul_of_pos_right (fits_high s m e F) (pow_pos 1074)))) in
    round_same binary64 s (suc m * up e) (down e) g (2 ^ 1074) (down_pos e) (pow_pos 1074) u
    ∙ only (round binary64 s g (2 ^ 1074)) s (suc m) e g (round-fits binary64 s g (2 ^ 1074)) (round_exact binary64 s g (2 ^ 1074) (suc m) l.0 (pow_pos 1074) short under refl) F u

-- ---- 2 ^ (e + k) is 2 ^ e times 2 ^ k, k of either sign

joined : (e k : ℤ) → up e * up k * down (e +ℤ k) ≡ up (e +ℤ k) * (down e * down k)
joined e (pos k) = sym (shift e k) ∙ ap (λ (x : ℕ). up (e +ℤ pos k) * x) (sym (mul-one (down e)))
joined e (negsuc k) =
    let f = e +ℤ negsuc k in
    let back : f +ℤ pos (suc k) ≡ e = +ℤ-neg_ℤ_cancel e (negsuc k) in
    let h : up e * down f ≡ up f * 2 ^ suc k * down e = subst (λ (x : ℤ). up x * down f ≡ up f * 2 ^ suc k * down x) back (shift f (suc k)) in
    ap (λ (x : ℕ). x * down f) (mul-one (up e)) ∙ h ∙ mul_assoc (up f) (2 ^ suc k) (down e) ∙ ap (λ (x : ℕ). up f * x) (mul_comm (2 ^ suc k) (down e))

-- a zero is written with one exponent alone
not_one : (j : ℕ) → 2 ^ suc j ≡ 1 → ⊥
not_one j h =
    let o : 0 < suc j = omega arith in
    let g : 1 < 2 ^ suc j = pow-lt o in
    omega arith

flat : (e : ℤ) → up e * down e ≡ 1 → pos 0 ≡ e
flat (pos zero) h = refl
flat (pos (suc j)) h = absurd (not_one j (sym (mul-one (2 ^ suc j)) ∙ h))
flat (negsuc j) h = absurd (not_one j (sym (one-mul (2 ^ suc j)) ∙ h))

-- ---- the theorem

own_sign : (s : Bool) → unlike s false ≡ s
own_sign true = refl
own_sign false = refl

pub scale_times : (k : ℤ) (x : Float) → T (fits binary64 (scale k x)) → x ⊗ fin false 1 k ≡ scale k x
unfolding scale mul fits
scale_times k nan F = refl
scale_times k (inf s) F = ap inf (own_sign s)
scale_times k (fin s zero e) F =
    ap (λ (t : Bool). round binary64 t (0 * up e * (1 * up k)) (down e * down k)) (own_sign s)
    ∙ ap (λ (a : ℕ). round binary64 s a (down e * down k)) none
    ∙ round_zero s (down e * down k) (mul-pos (down_pos e) (down_pos k))
    ∙ ap (fin s 0) (flat e (eqb→eq (up e * down e) 1 F))
  where
    none : 0 * up e * (1 * up k) ≡ 0
    none = simp zero-mul
scale_times k (fin s (suc m) e) F =
    ap (λ (t : Bool). round binary64 t (suc m * up e * (1 * up k)) (down e * down k)) (own_sign s)
    ∙ round_same binary64 s (suc m * up e * (1 * up k)) (down e * down k) (suc m * up (e +ℤ k)) (down (e +ℤ k)) (mul-pos (down_pos e) (down_pos k)) (down_pos (e +ℤ k)) cross
    ∙ own s m (e +ℤ k) F
  where
    cross : suc m * up e * (1 * up k) * down (e +ℤ k) ≡ suc m * up (e +ℤ k) * (down e * down k)
    cross =
        ap (λ (x : ℕ). suc m * up e * x * down (e +ℤ k)) (one-mul (up k))
        ∙ ap (λ (x : ℕ). x * down (e +ℤ k)) (mul_assoc (suc m) (up e) (up k))
        ∙ mul_assoc (suc m) (up e * up k) (down (e +ℤ k))
        ∙ ap (λ (x : ℕ). suc m * x) (joined e k)
        ∙ sym (mul_assoc (suc m) (up (e +ℤ k)) (down e * down k))
