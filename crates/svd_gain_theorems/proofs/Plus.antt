-- Numbers with no minus sign: a square is one, a sum of two is one, and such a sum is zero only where both are. Laws only.
use Rattle.std.specs.Prelude.{◌≡◌, refl, Bool, true, false, ℕ, zero, suc, ◌+◌, ◌*◌, ◌^◌, ◌<◌, T, eqb, Float}
use Rattle.std.proofs.Common.{sym, ap₂, ◌∙◌, subst, true≢false, mul-pos, zero-mul, add-mul, arith, lt-ltb}
use Rattle.std.specs.Float.{nan, inf, fin, binary64}
use Rattle.std.specs.Float.Ieee.{of_bits, up, down, units, round, sum, add, mul, lt, fits}
use Rattle.std.specs.Float.Ieee.Fits.{round_is, up_pos, down_pos}
use Rattle.std.specs.Float.Ieee.Exact.{HasValue, units_val}
use Rattle.std.specs.Float.Ieee.Order.{drop, kept}
use Rattle.std.specs.Float.Ieee.Scale.{finite}
use Rattle.grid.specs.Real.{zero64, ◌⊕◌, ◌⊗◌}
use Rattle.root.specs.Root as Root
use Rattle.root.specs.Root.{root, root_of, whole}
use Rattle.root.specs.Nearest.{counted}
use Rattle.svd_gain_theorems.specs.Scale.{is_zero, fine}
use Rattle.svd_gain_theorems.proofs.Round.{fine_finite, units_under}
use Rattle.svd_gain_theorems.proofs.Ops.{exact, fits_low, units_of, left_units, right_units}
use Rattle.svd_gain_theorems.proofs.RootScaled.{root_zero}

value_plus : (x : Float) (a c : ℕ) → HasValue x false a c → T (counted x)
value_plus nan a c v = absurd v
value_plus (inf t) a c v = absurd v
value_plus (fin true m e) a c v = absurd (true≢false v.0)
value_plus (fin false m e) a c v = tt

round_plus : (a c : ℕ) → T (finite (round binary64 false a c)) → T (counted (round binary64 false a c))
round_plus a c f =
    let q = kept 53 (a * 2 ^ 1074) c in
    let k = drop 53 (a * 2 ^ 1074) c in
    let is = round_is binary64 false a c in
    subst (λ (x : Float). T (counted x)) (sym is)
    (value_plus (units binary64 false q k) (q * 2 ^ k) (2 ^ 1074) (units_val binary64 false q k (units_under false q k (subst (λ (x : Float). T (finite x)) is f))))

pub square_plus : (x : Float) → T (fine (x ⊗ x)) → T (counted (x ⊗ x))
unfolding mul
square_plus nan f = absurd (unfold fine in f)
square_plus (inf s) f = absurd (unfold fine in f)
square_plus (fin true m e) f = round_plus (m * up e * (m * up e)) (down e * down e) (fine_finite _ f)
square_plus (fin false m e) f = round_plus (m * up e * (m * up e)) (down e * down e) (fine_finite _ f)

none : (m u d : ℕ) → 0 < u → 0 < d → m * u * d ≡ 0 → m ≡ 0
none zero u d U D h = refl
none (suc m) u d U D h = absurd (let g : 0 < suc m * u * d = mul-pos (mul-pos (omega arith) U) D in omega arith)

zero_b : (m : ℕ) → m ≡ 0 → eqb m 0 ≡ true
zero_b m h = rw h

pub add_plus : (x y : Float) → T (counted x) → T (counted y) → T (fits binary64 x) → T (fits binary64 y) → T (fine (x ⊕ y))
    → T (counted (x ⊕ y)) × (is_zero (x ⊕ y) ≡ true → (is_zero x ≡ true) × (is_zero y ≡ true))
unfolding add sum is_zero
add_plus nan y X Y F G f = absurd X
add_plus (inf s) y X Y F G f = absurd X
add_plus (fin true m e) y X Y F G f = absurd X
add_plus (fin false m e) nan X Y F G f = absurd Y
add_plus (fin false m e) (inf t) X Y F G f = absurd Y
add_plus (fin false m e) (fin true n d) X Y F G f = absurd Y
add_plus (fin false m e) (fin false n d) X Y F G f =
    (round_plus (m * up e * down d + n * up d * down e) (down e * down d) (fine_finite _ f), zero)
  where
    zero : is_zero (round binary64 false (m * up e * down d + n * up d * down e) (down e * down d)) ≡ true → (eqb m 0 ≡ true) × (eqb n 0 ≡ true)
    zero z =
        let r = units_of e (fits_low false m e F) in
        let q = units_of d (fits_low false n d G) in
        let u : (m * up e * down d + n * up d * down e) * 2 ^ 1074 ≡ (m * up e * r.0 + n * up d * q.0) * (down e * down d) =
        add-mul (m * up e * down d) (n * up d * down e) (2 ^ 1074)
        ∙ ap₂ ◌+◌ (left_units (m * up e) (down e) (down d) r.0 (2 ^ 1074) r.1) (right_units (n * up d) (down d) (down e) q.0 (2 ^ 1074) q.1)
        ∙ sym (add-mul (m * up e * r.0) (n * up d * q.0) (down e * down d)) in
        let o : m * up e * down d + n * up d * down e ≡ 0 =
        exact false _ (m * up e * r.0 + n * up d * q.0) (down e * down d) (mul-pos (down_pos e) (down_pos d)) u (subst T (sym z) tt) in
        (zero_b m (none m (up e) (down d) (up_pos e) (down_pos d) (omega arith)), zero_b n (none n (up d) (down e) (up_pos d) (down_pos e) (omega arith)))

lt_plus : (x : Float) → T (counted x) → is_zero x ≡ false → lt zero64 x ≡ true
unfolding lt is_zero of_bits
lt_plus nan X z = absurd X
lt_plus (inf s) X z = absurd X
lt_plus (fin true m e) X z = absurd X
lt_plus (fin false zero e) X z = absurd (true≢false z)
lt_plus (fin false (suc m) e) X z =
    lt-ltb (0 * down e) (suc m * up e * 1) (subst (λ (x : ℕ). x < suc m * up e * 1) (sym (zero-mul (down e))) (mul-pos (mul-pos (omega arith) (up_pos e)) (omega arith)))

root_of_plus : (u : ℕ) → T (fine (root_of u)) → T (counted (root_of u))
unfolding root_of
root_of_plus u f = round_plus (2 * whole 1600 (4 * (u * 2 ^ 1074)) + 1) (2 ^ 1076) (fine_finite (round binary64 false (2 * whole 1600 (4 * (u * 2 ^ 1074)) + 1) (2 ^ 1076)) f)

root_plus : (x : Float) → T (fine (root x)) → is_zero (root x) ≡ false → T (counted (root x))
unfolding root fine is_zero
root_plus nan f z = f
root_plus (inf true) f z = f
root_plus (inf false) f z = f
root_plus (fin s zero e) f z = absurd (true≢false z)
root_plus (fin true (suc m) e) f z = f
root_plus (fin false (suc m) e) f z = root_of_plus (Root.units (fin false (suc m) e)) f

-- a root that is not above zero is that of a zero
pub root_above : (x : Float) → T (fits binary64 x) → T (fine (root x)) → lt zero64 (root x) ≡ false → is_zero x ≡ true
root_above x F f h = go (is_zero (root x)) refl
  where
    go : (b : Bool) → is_zero (root x) ≡ b → is_zero x ≡ true
    go true e = root_zero x F e
    go false e = absurd (true≢false (sym (lt_plus (root x) (root_plus x f e) e) ∙ h))
