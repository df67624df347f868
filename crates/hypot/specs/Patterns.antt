-- `hypot2` by the patterns of the two magnitudes. Laws only.
use Rattle.std.specs.Prelude.{◌≡◌, refl, ℕ, zero, suc, ◌+◌, ◌-◌, ◌*◌, ◌/◌, ◌^◌, ◌<◌, Bool, true, false, not, T, Float}
use Rattle.std.proofs.Common.{sym, ap, ◌∙◌, subst, le_of_lt, zero-mul, arith, true≢false, lt→ltb}
use Rattle.std.proofs.Math.Nat.{zero-div}
use Rattle.std.specs.Float.{nan, inf, fin, binary64}
use Rattle.std.specs.Float.Ieee.{up, down, eq, ne, is_nan, size, to_bits, fits}
use Rattle.std.specs.Float.Ieee.Bits.{of_bits-to_bits}
use Rattle.std.specs.Float.Ieee.Compare.{differs_from_itself}
use Rattle.std.specs.Float.Ieee.Digits.{size-le}
use Rattle.root.specs.Root.{units}
use Rattle.leaves.specs.Leaf.{magnitude}
use Rattle.root.proofs.Fields as fields
use Rattle.root.proofs.Worked.{pattern, from_units}
use Rattle.root.proofs.Neighbours.{pattern_units}
use Rattle.hypot.specs.Hypot2.{root_of_sum, hypot2}
use Rattle.hypot.specs.RoundingParts.{low, high, val}
use Rattle.hypot.specs.Rounds.{val_is}
use Rattle.hypot.specs.Working.{parts}

-- ---- the pattern of a magnitude

abbrev pub bits_of : Float → ℕ
bits_of x = to_bits binary64 (magnitude x)

pub no_nan_of : (x : Float) → eq x x ≡ true → is_nan x ≡ false
unfolding eq is_nan
no_nan_of nan h = absurd (true≢false (sym h))
no_nan_of (inf s) h = refl
no_nan_of (fin s m e) h = refl

pub nan_of : (x : Float) → eq x x ≡ false → 0x7ff8_0000_0000_0000 ≡ to_bits binary64 x
unfolding ne to_bits
nan_of x h = sym (ap (to_bits binary64) (differs_from_itself x (subst (λ (b : Bool). T (not b)) (sym h) tt)))

of_nan : bits_of nan ≡ 0x7ff8_0000_0000_0000
unfolding to_bits magnitude
of_nan = refl

of_inf : (s : Bool) → bits_of (inf s) ≡ 0x7ff0_0000_0000_0000
unfolding to_bits magnitude
of_inf s = refl

pub zero_units : (e : _) → units (fin false zero e) ≡ 0
zero_units e = ap (λ (x : ℕ). x * 2 ^ 1074 / down e) (zero-mul (up e)) ∙ zero-div (down e)

pub positive_lt : (s : Bool) (m : ℕ) (e : _) → T (fits binary64 (fin s m e)) → to_bits binary64 (fin false m e) < 0x7ff0_0000_0000_0000
unfolding fits
positive_lt s zero e f =
    let a : to_bits binary64 (fin false zero e) ≡ 0 + (size 0 - 53) * 2 ^ 52 + 0 / 2 ^ (size 0 - 53) = from_units (fin false zero e) tt ∙ ap (λ (u : ℕ). 0 + (size u - 53) * 2 ^ 52 + u / 2 ^ (size u - 53)) (zero_units e) in
    omega (arith, a, size-le 0 0 (omega arith), zero-div (2 ^ (size 0 - 53)))
positive_lt s (suc m) e f = (pattern (fin false (suc m) e) f (lt→ltb 0 (suc m) (omega arith))).1

pub of_fin : (s : Bool) (m : ℕ) (e : _) → T (fits binary64 (fin s m e)) → bits_of (fin s m e) < 0x7ff0_0000_0000_0000
unfolding magnitude
of_fin s m e f = positive_lt s m e f

-- ---- the number of units

pub unsigned : (s : Bool) (m : ℕ) (e : _) → T (fits binary64 (fin s m e)) → T (fits binary64 (fin false m e))
unfolding fits
unsigned s zero e f = f
unsigned s (suc m) e f = f

pub val_same : (b : ℕ) → b < 0x7ff0_0000_0000_0000 → fields.val b ≡ val b
val_same b h =
    let w = parts b (low b) h refl in
    ap fields.val (sym w.sum) ∙ val_is (low b) (high b) w.all (le_of_lt w.few)

pub units_of : (s : Bool) (m : ℕ) (e : _) → T (fits binary64 (fin s m e)) → units (fin s m e) ≡ val (bits_of (fin s m e))
unfolding magnitude
units_of s m e f =
    let v : Float = fin false m e in
    let l = positive_lt s m e f in
    ap units (sym (of_bits-to_bits binary64 v (unsigned s m e f))) ∙ pattern_units (to_bits binary64 v) l ∙ val_same (to_bits binary64 v) l

-- ---- `hypot2` by the kind of its arguments

not_above : (a : ℕ) → a < 0x7ff0_0000_0000_0000 → a ≡ 0x7ff0_0000_0000_0000 → ⊥
not_above a h e = omega arith

not_over : (a : ℕ) → a < 0x7ff0_0000_0000_0000 → 0x7ff0_0000_0000_0000 < a → ⊥
not_over a h e = omega arith

is_nan_lem : (a : ℕ) → a ≡ 0x7ff8_0000_0000_0000 → a ≡ 0x7ff0_0000_0000_0000 → ⊥
is_nan_lem a h e = omega arith

is_inf : (a : ℕ) → a ≡ 0x7ff0_0000_0000_0000 → 0x7ff0_0000_0000_0000 < a → ⊥
is_inf a h e = omega arith

pub infinite_left : (x y : Float) → T (fits binary64 x) → bits_of x ≡ 0x7ff0_0000_0000_0000 → inf false ≡ hypot2 x y
unfolding hypot2
infinite_left nan y f h = absurd (is_nan_lem (bits_of nan) of_nan h)
infinite_left (inf s) y f h = refl
infinite_left (fin s m e) y f h = absurd (not_above (bits_of (fin s m e)) (of_fin s m e f) h)

pub infinite_right : (x y : Float) → T (fits binary64 y) → bits_of y ≡ 0x7ff0_0000_0000_0000 → inf false ≡ hypot2 x y
unfolding hypot2
infinite_right x nan f h = absurd (is_nan_lem (bits_of nan) of_nan h)
infinite_right nan (inf t) f h = refl
infinite_right (inf s) (inf t) f h = refl
infinite_right (fin s m e) (inf t) f h = refl
infinite_right x (fin s m e) f h = absurd (not_above (bits_of (fin s m e)) (of_fin s m e f) h)

pub nan_left : (x y : Float) → T (fits binary64 x) → 0x7ff0_0000_0000_0000 < bits_of x → (bits_of y ≡ 0x7ff0_0000_0000_0000 → ⊥) → nan ≡ hypot2 x y
unfolding hypot2
nan_left nan nan f h n = refl
nan_left nan (inf t) f h n = absurd (n (of_inf t))
nan_left nan (fin t m e) f h n = refl
nan_left (inf s) y f h n = absurd (is_inf (bits_of (inf s)) (of_inf s) h)
nan_left (fin s m e) y f h n = absurd (not_over (bits_of (fin s m e)) (of_fin s m e f) h)

pub nan_right : (x y : Float) → T (fits binary64 y) → 0x7ff0_0000_0000_0000 < bits_of y → (bits_of x ≡ 0x7ff0_0000_0000_0000 → ⊥) → nan ≡ hypot2 x y
unfolding hypot2
nan_right nan nan f h n = refl
nan_right (inf s) nan f h n = absurd (n (of_inf s))
nan_right (fin s m e) nan f h n = refl
nan_right x (inf t) f h n = absurd (is_inf (bits_of (inf t)) (of_inf t) h)
nan_right x (fin t m e) f h n = absurd (not_over (bits_of (fin t m e)) (of_fin t m e f) h)

inf_not_less : (s : Bool) → bits_of (inf s) < 0x7ff0_0000_0000_0000 → ⊥
inf_not_less s h = not_above (bits_of (inf s)) h (of_inf s)

nan_not_less : bits_of nan < 0x7ff0_0000_0000_0000 → ⊥
nan_not_less h = go (bits_of nan) of_nan h
  where
    go : (a : ℕ) → a ≡ 0x7ff8_0000_0000_0000 → a < 0x7ff0_0000_0000_0000 → ⊥
    go a e h = omega arith

pub of_two : (s : Bool) (m : ℕ) (e : _) (t : Bool) (n : ℕ) (d : _) → hypot2 (fin s m e) (fin t n d) ≡ root_of_sum (units (fin s m e) * units (fin s m e) + units (fin t n d) * units (fin t n d))
unfolding hypot2
of_two s m e t n d = refl

pub both_finite : (x y : Float) → T (fits binary64 x) → T (fits binary64 y) → bits_of x < 0x7ff0_0000_0000_0000 → bits_of y < 0x7ff0_0000_0000_0000
    → hypot2 x y ≡ root_of_sum (val (bits_of x) * val (bits_of x) + val (bits_of y) * val (bits_of y))
both_finite nan y f g h k = absurd (nan_not_less h)
both_finite (inf s) y f g h k = absurd (inf_not_less s h)
both_finite (fin s m e) nan f g h k = absurd (nan_not_less k)
both_finite (fin s m e) (inf t) f g h k = absurd (inf_not_less t k)
both_finite (fin s m e) (fin t n d) f g h k = at_last (fin s m e) (fin t n d) (units_of s m e f) (units_of t n d g) (of_two s m e t n d)
  where
    at_last : (x y : Float) → units x ≡ val (bits_of x) → units y ≡ val (bits_of y) → hypot2 x y ≡ root_of_sum (units x * units x + units y * units y)
        → hypot2 x y ≡ root_of_sum (val (bits_of x) * val (bits_of x) + val (bits_of y) * val (bits_of y))
    at_last x y a b c = c ∙ ap (λ (u : ℕ). root_of_sum (u * u + units y * units y)) a ∙ ap (λ (u : ℕ). root_of_sum (val (bits_of x) * val (bits_of x) + u * u)) b
