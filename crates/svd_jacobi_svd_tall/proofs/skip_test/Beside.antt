-- A number above zero whose rounded square is below p is no greater than the root of p, and one whose rounded square is above p is no smaller: `root` is the nearest double, and
-- rounding keeps the order. Laws only.
use mathlib.Core.Path.{◌≡◌, refl, sym, ap, ◌∙◌, subst}
use mathlib.Core.Bool.{true, false, true≢false}
use Prim.Native.Nat.{ℕ, ◌+◌, ◌*◌, ◌^◌, ◌≤◌, ◌<◌}
use native.Mathlib.Nat.{le_trans, le_of_eq, lt_of_lt_of_le, lt_of_le_of_lt, mul-le-mul_right, mul_assoc, mul-pos, add-le-add, le_refl}
use native.Mathlib.Decide.{dec_lt}
use native.Mathlib.Omega.{arith}
use lib.Dec.{T}
use lib.Pow.{pow_pos}
use lib.Ieee.{Float, binary64, mul, lt, le, round, fits, to_bits}
use lib.Ieee.Bits.{of_bits-to_bits}
use lib.Ieee.Exact.{HasValue, round_exact}
use lib.Ieee.Fits.{round-fits}
use lib.Ieee.Order.{le_of_values, round_mono}
use lib.Ieee.Positive.{positive, mul_at}
use Rattle.root.specs.Root.{units, root}
use Rattle.root.specs.Nearest.{Nearest}
use Rattle.root.proofs.Fields.{val}
use Rattle.root.proofs.Whole.{sq_mono, sq_even}
use Rattle.root.proofs.Patterns.{bits_value}
use Rattle.root.proofs.Worked.{units_are, counted_of, digits, pattern, units_inj}
use Rattle.root.proofs.Neighbours.{val_step, val_mono, root_between, between_nearest}
use Rattle.svd_jacobi_svd_tall.proofs.skip_test.Order.{le_not}

-- ---- a double above zero in units of 2 ^ -1074

module _ (x : Float) (f : T (fits binary64 x)) (p : T (positive x)) where
  by_bits : HasValue x false (val (to_bits binary64 x)) (2 ^ 1074)
  by_bits = subst (λ (y : Float). HasValue y false (val (to_bits binary64 x)) (2 ^ 1074)) (of_bits-to_bits binary64 x f) (bits_value (to_bits binary64 x) (pattern x f p).1)

  units_is : units x ≡ val (to_bits binary64 x)
  units_is = units_are x false (val (to_bits binary64 x)) by_bits

  in_units : HasValue x false (units x) (2 ^ 1074)
  in_units = subst (λ (k : ℕ). HasValue x false k (2 ^ 1074)) (sym units_is) by_bits

  bound : units x < val 0x7ff0_0000_0000_0000
  bound = subst (λ (k : ℕ). k < val 0x7ff0_0000_0000_0000) (sym units_is)
      (lt_of_lt_of_le (val_step (to_bits binary64 x)) (val_mono (to_bits binary64 x + 1) 0x7ff0_0000_0000_0000 (omega (arith, (pattern x f p).1))))

  -- rounding gives it back
  itself : round binary64 false (units x) (2 ^ 1074) ≡ x
  itself =
      let c = counted_of x (units x) (2 ^ 1074) in_units in
      let d = digits x f c in
      let v : HasValue (round binary64 false (units x) (2 ^ 1074)) false (units x) (2 ^ 1074) =
      round_exact binary64 false (units x) (2 ^ 1074) d.0 d.1 (pow_pos 1074) d.3 (subst (λ (k : ℕ). k < 2 ^ 2098) d.2 (lt_of_lt_of_le bound (le_of_eq refl))) (ap (λ (k : ℕ). k * 2 ^ 1074) d.2) in
      units_inj (round binary64 false (units x) (2 ^ 1074)) x (round-fits binary64 false (units x) (2 ^ 1074)) (counted_of (round binary64 false (units x) (2 ^ 1074)) (units x) (2 ^ 1074) v) f c
      (units_are (round binary64 false (units x) (2 ^ 1074)) false (units x) v)

  square : mul binary64 x x ≡ round binary64 false (units x * units x) (2 ^ 1074 * 2 ^ 1074)
  square = mul_at binary64 x x (units x) (2 ^ 1074) (units x) (2 ^ 1074) p p (pow_pos 1074) (pow_pos 1074) in_units in_units

-- ---- where the midpoint of u and r lies on one side, u's square lies there too

twice : (a : ℕ) → a + a ≡ a * 2
twice a = omega arith

quarter : (x y : ℕ) → 4 * x < 4 * y → x ≤ y
quarter x y h = omega arith

over : (X D U R : ℕ) → 4 * (X * D) < (U + R) * (U + R) → R ≤ U → X * (D * D) ≤ U * U * D
over X D U R h l =
    let a : (U + R) * (U + R) ≤ 4 * (U * U) = le_trans (sq_mono (add-le-add (le_refl U) l)) (le_trans (le_of_eq (ap (λ (x : ℕ). x * x) (twice U))) (le_of_eq (sq_even U))) in
    le_trans (le_of_eq (sym (mul_assoc X D D))) (mul-le-mul_right D (quarter (X * D) (U * U) (lt_of_lt_of_le h a)))

under : (X D U R : ℕ) → (U + R) * (U + R) < 4 * (X * D) → U ≤ R → U * U * D ≤ X * (D * D)
under X D U R h l =
    let a : 4 * (U * U) ≤ (U + R) * (U + R) = le_trans (le_trans (le_of_eq (sym (sq_even U))) (le_of_eq (ap (λ (x : ℕ). x * x) (sym (twice U))))) (sq_mono (add-le-add (le_refl U) l)) in
    le_trans (mul-le-mul_right D (quarter (U * U) (X * D) (lt_of_le_of_lt a h))) (le_of_eq (mul_assoc X D D))

less : {a b : ℕ} → a < b → a ≤ b
less h = omega arith

not_less : {a b : ℕ} → (a < b → ⊥) → b ≤ a
not_less h = omega arith

module _ (u p : Float) (fu : T (fits binary64 u)) (fp : T (fits binary64 p)) (pu : T (positive u)) (pp : T (positive p)) where
  near : Nearest p (root p)
  near = between_nearest p (root p) (root_between p fp pp)

  pub root_positive : T (positive (root p))
  root_positive = (root_between p fp pp).sign

  counts : HasValue u false (units u) (2 ^ 1074)
  counts = in_units u fu pu

  of_root : HasValue (root p) false (units (root p)) (2 ^ 1074)
  of_root = in_units (root p) near.held root_positive

  pub below_root : lt (mul binary64 u u) p ≡ true → T (le u (root p))
  below_root e = elim (dec_lt (units (root p)) (units u)) [
    | yes l ↦
        let h = near.above u fu (counted_of u (units u) (2 ^ 1074) counts) l in
        let t = round_mono binary64 (units p) (2 ^ 1074) (units u * units u) (2 ^ 1074 * 2 ^ 1074) (pow_pos 1074) (mul-pos (pow_pos 1074) (pow_pos 1074)) (over (units p) (2 ^ 1074) (units u) (units (root p)) h (less l)) in
        let s : T (le p (mul binary64 u u)) = subst (λ (y : Float). T (le p y)) (sym (square u fu pu)) (subst (λ (y : Float). T (le y (round binary64 false (units u * units u) (2 ^ 1074 * 2 ^ 1074)))) (itself p fp pp) t) in
        absurd (true≢false (sym e ∙ le_not p (mul binary64 u u) s))
    | no l ↦ le_of_values u (root p) (units u) (2 ^ 1074) (units (root p)) (2 ^ 1074) (pow_pos 1074) (pow_pos 1074) counts of_root (mul-le-mul_right (2 ^ 1074) (not_less l))
  ]

  pub above_root : lt p (mul binary64 u u) ≡ true → T (le (root p) u)
  above_root e = elim (dec_lt (units u) (units (root p))) [
    | yes l ↦
        let h = near.below u fu (counted_of u (units u) (2 ^ 1074) counts) l in
        let t = round_mono binary64 (units u * units u) (2 ^ 1074 * 2 ^ 1074) (units p) (2 ^ 1074) (mul-pos (pow_pos 1074) (pow_pos 1074)) (pow_pos 1074) (under (units p) (2 ^ 1074) (units u) (units (root p)) h (less l)) in
        let s : T (le (mul binary64 u u) p) = subst (λ (y : Float). T (le y p)) (sym (square u fu pu)) (subst (λ (y : Float). T (le (round binary64 false (units u * units u) (2 ^ 1074 * 2 ^ 1074)) y)) (itself p fp pp) t) in
        absurd (true≢false (sym e ∙ le_not (mul binary64 u u) p s))
    | no l ↦ le_of_values (root p) u (units (root p)) (2 ^ 1074) (units u) (2 ^ 1074) (pow_pos 1074) (pow_pos 1074) of_root counts (mul-le-mul_right (2 ^ 1074) (not_less l))
  ]
