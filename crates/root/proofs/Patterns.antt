-- What a bit pattern of binary64 stands for, as a number of units of 2 ^ -1074, and what `root` does with it.
use Rattle.std.proofs.Common.{◌≡◌, ℕ, zero, suc, ◌+◌, ◌-◌, ◌*◌, ◌/◌, ◌%◌, ◌^◌, ◌<◌, ◌≤◌, Bool, true, false, cond, not, T, eqb, ltb, leb, ◌⊎◌, sym, refl, ap, ◌∙◌, subst, le_of_suc-le-suc, mod-eq_of_lt, eq-or-lt_of_le, mul-pos, mul-one, arith, pow_pos, le-ltb, lt-ltb, ne_eqb}
use borrow.Author.Tests.{lt-leb}
use lib.Ieee.{Float, nan, inf, binary64, odd, of_fields, of_bits, to_bits, fits, nan_bits}
use lib.Ieee.Bits.{nan_bits_above, of_bits-to_bits}
use lib.Ieee.Exact.{HasValue, odd_sign}
use lib.Ieee.Positive.{positive, positive_of_value}
use Rattle.root.proofs.Fields.{val}

pub of_bits_is : (b : ℕ) → of_bits binary64 b ≡ of_fields binary64 (leb (2 ^ 63) b) (b % 2 ^ 63 / 2 ^ 52) (b % 2 ^ 52)
unfolding of_bits
of_bits_is b = refl

-- a field below the highest: the number in units of 2 ^ -1074
abbrev pub units_of : ℕ → ℕ → ℕ
units_of zero t = t
units_of (suc x) t = (2 ^ 52 + t) * 2 ^ x

pub fields_value : (s : Bool) (x t : ℕ) → x < 2047 → HasValue (of_fields binary64 s x t) s (units_of x t) (2 ^ 1074)
unfolding of_fields
fields_value s zero t h = subst (λ (a : ℕ). HasValue (odd 53 s t 0 1074) s a (2 ^ 1074)) (mul-one t) (odd_sign 53 s t 0 1074)
fields_value s (suc x) t h =
    subst (λ (c : Bool). HasValue (cond c (cond (eqb t 0) (inf s) nan) (odd 53 s (2 ^ 52 + t) x 1074)) s ((2 ^ 52 + t) * 2 ^ x) (2 ^ 1074))
    (sym (ne_eqb (suc x) 2047 (λ (e : suc x ≡ 2047). omega arith)))
    (odd_sign 53 s (2 ^ 52 + t) x 1074)

-- the highest field is an infinity or a NaN
pub fields_top : (s : Bool) (t : ℕ) → of_fields binary64 s 2047 t ≡ cond (eqb t 0) (inf s) nan
unfolding of_fields
fields_top s t = refl

pub units_val : (b : ℕ) → units_of (b / 2 ^ 52) (b % 2 ^ 52) ≡ val b
units_val b = go (b / 2 ^ 52) refl
  where
    go : (x : ℕ) → b / 2 ^ 52 ≡ x → units_of x (b % 2 ^ 52) ≡ val b
    go zero e =
        let h : b < 2 ^ 52 = omega arith in
        let k : b % 2 ^ 52 ≡ b = omega arith in
        k ∙ sym (ap (λ (t : Bool). cond t b ((2 ^ 52 + b % 2 ^ 52) * 2 ^ (b / 2 ^ 52 - 1))) (lt-ltb b (2 ^ 52) h))
    go (suc x) e =
        let h : 2 ^ 52 ≤ b = omega arith in
        let k : x ≡ b / 2 ^ 52 - 1 = omega arith in
        ap (λ (y : ℕ). (2 ^ 52 + b % 2 ^ 52) * 2 ^ y) k ∙ sym (ap (λ (t : Bool). cond t b ((2 ^ 52 + b % 2 ^ 52) * 2 ^ (b / 2 ^ 52 - 1))) (le-ltb b (2 ^ 52) h))

-- a pattern below the infinity's
pub bits_value : (b : ℕ) → b < 0x7ff0_0000_0000_0000 → HasValue (of_bits binary64 b) false (val b) (2 ^ 1074)
bits_value b h =
    let small : b < 2 ^ 63 = omega arith in
    let field : b / 2 ^ 52 < 2047 = omega arith in
    let e : of_bits binary64 b ≡ of_fields binary64 false (b / 2 ^ 52) (b % 2 ^ 52) =
    of_bits_is b ∙ ap (λ (s : Bool). of_fields binary64 s (b % 2 ^ 63 / 2 ^ 52) (b % 2 ^ 52)) (lt-leb (2 ^ 63) b small) ∙ ap (λ (x : ℕ). of_fields binary64 false (x / 2 ^ 52) (b % 2 ^ 52)) (mod-eq_of_lt small) in
    subst (λ (v : Float). HasValue v false (val b) (2 ^ 1074)) (sym e)
    (subst (λ (a : ℕ). HasValue (of_fields binary64 false (b / 2 ^ 52) (b % 2 ^ 52)) false a (2 ^ 1074)) (units_val b) (fields_value false (b / 2 ^ 52) (b % 2 ^ 52) field))

-- ---- a finite value above zero

pub top_or_less : (x : ℕ) → x < 2048 → (x ≡ 2047) ⊎ (x < 2047)
top_or_less x h = eq-or-lt_of_le (le_of_suc-le-suc h)

val_pos : (b : ℕ) → 0 < b → 0 < val b
val_pos b h = go (ltb b (2 ^ 52))
  where
    go : (t : Bool) → 0 < cond t b ((2 ^ 52 + b % 2 ^ 52) * 2 ^ (b / 2 ^ 52 - 1))
    go true = h
    go false = mul-pos (lead (b % 2 ^ 52)) (pow_pos (b / 2 ^ 52 - 1))
      where
        lead : (t : ℕ) → 0 < 2 ^ 52 + t
        lead t = omega arith

-- a pattern above zero's and below the infinity's
pub is_positive : (x : Float) → T (fits binary64 x) → 0 < to_bits binary64 x → to_bits binary64 x < 0x7ff0_0000_0000_0000 → T (positive x)
is_positive x f p l =
    let b = to_bits binary64 x in
    subst (λ (y : Float). T (positive y)) (of_bits-to_bits binary64 x f) (positive_of_value (of_bits binary64 b) (val b) (2 ^ 1074) (bits_value b l) (val_pos b p))

pub no_nan : (b : ℕ) → b ≤ 0x7ff0_0000_0000_0000 → T (not (nan_bits binary64 b))
no_nan b h = subst (λ (t : Bool). T (not t)) (sym (nan_bits_above binary64 b ∙ le-ltb 0x7ff0_0000_0000_0000 (b % 2 ^ 63) (omega arith))) tt
