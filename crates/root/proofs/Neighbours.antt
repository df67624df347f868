-- The doubles from 0 up are in the order of their patterns, so the neighbours of a double are the patterns beside its own. With that: x lies strictly between the squares of
-- the midpoints of its root and the root's two neighbours (`root_between`), and no other double is so (`between_only`).
use Rattle.std.proofs.Common.{◌≡◌, ℕ, zero, suc, ◌+◌, ◌-◌, ◌*◌, ◌/◌, ◌%◌, ◌^◌, ◌<◌, ◌≤◌, Bool, false, not, T, ◌⊎◌, sym, ap, ◌∙◌, subst, inl, inr, le_trans, le_of_eq, le_refl, lt_of_lt_of_le, lt_of_le_of_lt, add-zero, le_of_lt, add-le-add, mul_assoc, eq-or-lt_of_le, mul-lt-mul_of_pos_right, lt_of_not-le, zero-mul, not-le_of_lt, arith, lt→ltb, pow_pos}
use native.Mathlib.Nat.{zero-div, pow-succ'}
use lib.Ieee.{Float, fin, binary64, up, down, of_bits, to_bits, fits}
use lib.Ieee.Bits.{of_bits-to_bits, to_bits-of_bits, nan_bits_is, of_bits-fits}
use lib.Ieee.Positive.{positive}
use Rattle.root.specs.Root.{units, root}
use Rattle.root.specs.Parts.{root_bits}
use Rattle.root.specs.Nearest.{counted, Nearest, lesser, greater, Between}
use Rattle.root.proofs.Whole.{sq_mono}
use Rattle.root.proofs.Fields.{val}
use Rattle.root.proofs.Patterns.{units_of, units_val, bits_value, no_nan, is_positive}
use Rattle.root.proofs.Nearest.{root_nearest, nearest_only}
use Rattle.root.proofs.Rounds.{root_is}
use Rattle.root.proofs.Worked.{units_are, pattern, pattern_counted, root_range}
use Rattle.std.specs.Float.{nan, inf}
use Rattle.std.specs.Prelude.{true}

next_digit : (x t : ℕ) → units_of x t < units_of x (t + 1)
next_digit zero t = omega arith
next_digit (suc x) t = mul-lt-mul_of_pos_right (more t) (pow_pos x)
  where
    more : (t : ℕ) → 2 ^ 52 + t < 2 ^ 52 + (t + 1)
    more t = omega arith

next_field : (x t : ℕ) → t < 2 ^ 52 → units_of x t < units_of (x + 1) 0
next_field zero t h = omega arith
next_field (suc x) t h = subst (λ (y : ℕ). (2 ^ 52 + t) * 2 ^ x < units_of y 0) (sym (one x)) (lt_of_lt_of_le (mul-lt-mul_of_pos_right less (pow_pos x)) (le_of_eq (sym (ap (λ (y : ℕ). 2 ^ 52 * y) (pow-succ' 2 x) ∙ sym (mul_assoc (2 ^ 52) 2 (2 ^ x))))))
  where
    one : (x : ℕ) → suc x + 1 ≡ suc (suc x)
    one x = omega arith

    less : 2 ^ 52 + t < 2 ^ 52 * 2
    less = omega arith

pub val_step : (b : ℕ) → val b < val (b + 1)
val_step b =
    let x = b / 2 ^ 52 in
    let t = b % 2 ^ 52 in
    elim (last (b % 2 ^ 52) (omega arith)) [
      | inl e ↦
          let f : (b + 1) / 2 ^ 52 ≡ x + 1 = omega arith in
          let g : (b + 1) % 2 ^ 52 ≡ 0 = omega arith in
          carried (ap (λ (y : ℕ). units_of y ((b + 1) % 2 ^ 52)) f ∙ ap (λ (y : ℕ). units_of (x + 1) y) g) (next_field x t (omega arith))
      | inr l ↦
          let f : (b + 1) / 2 ^ 52 ≡ x = omega arith in
          let g : (b + 1) % 2 ^ 52 ≡ t + 1 = omega arith in
          carried (ap (λ (y : ℕ). units_of y ((b + 1) % 2 ^ 52)) f ∙ ap (λ (y : ℕ). units_of x y) g) (next_digit x t)
    ]
  where
    last : (t : ℕ) → t < 2 ^ 52 → (t + 1 ≡ 2 ^ 52) ⊎ (t + 1 < 2 ^ 52)
    last t h = eq-or-lt_of_le (le t h)
      where
        le : (t : ℕ) → t < 2 ^ 52 → t + 1 ≤ 2 ^ 52
        le t h = omega arith

    carried : {u : ℕ} → units_of ((b + 1) / 2 ^ 52) ((b + 1) % 2 ^ 52) ≡ u → units_of (b / 2 ^ 52) (b % 2 ^ 52) < u → val b < val (b + 1)
    carried {u} e h = subst (λ (y : ℕ). y < val (b + 1)) (units_val b) (subst (λ (y : ℕ). units_of (b / 2 ^ 52) (b % 2 ^ 52) < y) (sym e ∙ units_val (b + 1)) h)

-- in the order of the patterns
val_more : (b k : ℕ) → val b ≤ val (b + k)
val_more b zero = le_of_eq (ap val (sym (add-zero b)))
val_more b (suc k) =
    let e : b + k + 1 ≡ b + suc k = omega arith in
    le_trans (val_more b k) (le_trans (le_of_lt (val_step (b + k))) (le_of_eq (ap val e)))

pub val_mono : (b c : ℕ) → b ≤ c → val b ≤ val c
val_mono b c h =
    let e : b + (c - b) ≡ c = omega arith in
    rw e at (val_more b (c - b))

pub val_back : (b c : ℕ) → val b < val c → b < c
val_back b c h = lt_of_not-le (λ (g : c ≤ b). not-le_of_lt h (val_mono c b g))

-- the units of a pattern
pub pattern_units : (b : ℕ) → b < 0x7ff0_0000_0000_0000 → units (of_bits binary64 b) ≡ val b
pattern_units b h = units_are (of_bits binary64 b) false (val b) (bits_value b h)

-- of a double above zero
bits_units : (x : Float) → T (fits binary64 x) → T (positive x) → units x ≡ val (to_bits binary64 x)
bits_units x f p = ap units (sym (of_bits-to_bits binary64 x f)) ∙ pattern_units (to_bits binary64 x) (pattern x f p).1

-- ---- the root lies so

module _ (x : Float) (f : T (fits binary64 x)) (p : T (positive x)) where
  bits_are : to_bits binary64 (root x) ≡ root_bits (to_bits binary64 x)
  bits_are =
      let w = pattern x f p in
      let b = root_bits (to_bits binary64 x) in
      let g = root_range (to_bits binary64 x) w.0 w.1 in
      ap (to_bits binary64) (root_is x f p)
      ∙ to_bits-of_bits binary64 b (omega (arith, g.1)) (subst (λ (t : Bool). T (not t)) (nan_bits_is binary64 b) (no_nan b (omega (arith, g.1))))

  -- the root is not subnormal, and so far from the ends that it has both neighbours
  pub within : (0x1e60_0000_0000_0000 ≤ to_bits binary64 (root x)) × (to_bits binary64 (root x) < 0x5ff0_0000_0000_0000)
  within =
      let w = pattern x f p in
      rw bits_are (root_range (to_bits binary64 x) w.0 w.1)

  pub root_between : Between x (root x)
  root_between =
      let r = root x in
      let b = to_bits binary64 r in
      let n = root_nearest x f p in
      let s = is_positive r n.held (omega (arith, within.0)) (omega (arith, within.1)) in
      let e : units r ≡ val b = bits_units r n.held s in
      let d : b - 1 + 1 ≡ b = omega (arith, within.0) in
      let l : units (lesser r) < units r = rw (pattern_units (b - 1) (omega (arith, within.1)), e) (rw d at (val_step (b - 1))) in
      let g : units r < units (greater r) = rw (pattern_units (b + 1) (omega (arith, within.1)), e) (val_step b) in
      record {
        held = n.held;
        sign = s;
        below = n.below (lesser r) (of_bits-fits binary64 (b - 1)) (pattern_counted (b - 1) (omega (arith, within.1))) l;
        above = n.above (greater r) (of_bits-fits binary64 (b + 1)) (pattern_counted (b + 1) (omega (arith, within.1))) g;
      }

-- ---- and nothing else does

counted_cases : (y : Float) → T (counted y) → (units y ≡ 0) ⊎ T (positive y)
counted_cases (fin false zero e) c = inl (ap (λ (u : ℕ). u * 2 ^ 1074 / down e) (zero-mul (up e)) ∙ zero-div (down e))
counted_cases (fin false (suc m) e) c = inr (lt→ltb 0 (suc m) (omega arith))
counted_cases nan c = elim c [ ]
counted_cases (inf _) c = elim c [ ]
counted_cases (fin true _ e) c = elim c [ ]

is_counted : (r : Float) → T (positive r) → T (counted r)
is_counted (fin false m e) p = tt
is_counted nan p = elim p [ ]
is_counted (inf _) p = elim p [ ]
is_counted (fin true m e) p = elim p [ ]

module _ (r : Float) (f : T (fits binary64 r)) (p : T (positive r)) (y : Float) (g : T (fits binary64 y)) (c : T (counted y)) where
  less : units y < units r → units y ≤ units (lesser r)
  less h = elim (counted_cases y c) [
    | inl z ↦ omega arith
    | inr q ↦
        let l : to_bits binary64 y < to_bits binary64 r = val_back _ _ (rw (bits_units y g q, bits_units r f p) at h) in
        rw (bits_units y g q, pattern_units (to_bits binary64 r - 1) (omega (arith, (pattern r f p).1))) (val_mono (to_bits binary64 y) (to_bits binary64 r - 1) (omega arith))
  ]

  more : units r < units y → units (greater r) ≤ units y
  more h = elim (counted_cases y c) [
    | inl z ↦ absurd (omega arith)
    | inr q ↦
        let l : to_bits binary64 r < to_bits binary64 y = val_back _ _ (rw (bits_units r f p, bits_units y g q) at h) in
        rw (bits_units y g q, pattern_units (to_bits binary64 r + 1) (omega (arith, (pattern y g q).1))) (val_mono (to_bits binary64 r + 1) (to_bits binary64 y) (omega arith))
  ]

pub between_nearest : (x r : Float) → Between x r → Nearest x r
between_nearest x r w = record {
  held = w.held;
  sign = is_counted r w.sign;
  below = λ y f c h. lt_of_le_of_lt (sq_mono (add-le-add (less r w.held w.sign y f c h) (le_refl (units r)))) w.below;
  above = λ y f c h. lt_of_lt_of_le w.above (sq_mono (add-le-add (more r w.held w.sign y f c h) (le_refl (units r))));
}

pub between_only : (x r s : Float) → Between x r → Between x s → r ≡ s
between_only x r s p q = nearest_only x r s (between_nearest x r p) (between_nearest x s q)
