-- `root x`, which `round` makes of the middle of a short stretch that holds √x, is the double whose bit pattern `root_bits` works out (`root_is`).
use Rattle.std.proofs.Common.{◌≡◌, ℕ, zero, suc, ◌+◌, ◌-◌, ◌*◌, ◌/◌, ◌%◌, ◌^◌, ◌<◌, ◌≤◌, false, not, T, eqb, sym, refl, ap, ◌∙◌, subst, le_trans, le_of_eq, le_refl, lt_of_lt_of_le, lt_of_le_of_lt, add-le-add, lt_irrefl, mul-le-mul_right, mul_assoc, suc-mul, div-lt_iff_lt-mul, add-mul, lt_of_mul-lt-mul_right, mul-lt-mul_of_pos_right, mul-pos, lt_of_not-le, le-div_iff_mul-le, mul_left_comm, arith, lit≤, eqb→eq, leb→le, pow_pos, pow_mono, pow-add, shl_lt}
use Prim.Native.Nat.{compare, Ordering}
use native.Mathlib.Nat.{mul-lt-mul_of_pos_left}
use lib.Dec.{is_le, compare_is_eq, nleb→lt, eqb_refl}
use lib.Arith.{lt_of_le-ne, digits_div, digits_mod}
use lib.Ieee.{Float, fin, binary64, nearest, size, round, of_bits, to_bits, fits}
use lib.Ieee.Bits.{of_bits-to_bits, of_bits-fits}
use lib.Ieee.Fits.{round-fits}
use lib.Ieee.Scale.{grid, round_val}
use lib.Ieee.Positive.{positive}
use lib.Ieee.Digits.{size-lt, size-le}
use lib.Ieee.Nearest.{closest, closest_same}
use Rattle.root.specs.Root.{whole, units, root}
use Rattle.root.specs.Parts.{sig, exp, root_bits}
use Rattle.root.proofs.Worked.{worked, root_range, pattern, pattern_counted, units_are, units_inj, counted_of}
use Rattle.root.proofs.Whole.{Is, whole_is, sq_lt_back, sq_mul}
use Rattle.root.proofs.Fields.{val, split}
use Rattle.root.proofs.Patterns.{bits_value}
use Rattle.std.specs.Float.{nan, inf}
use Rattle.std.specs.Prelude.{true}

-- ---- what `compare` says
abbrev pub Cmp : Ordering → ℕ → ℕ → Type 0
Cmp Ordering.lt a b = a < b
Cmp Ordering.eq a b = a ≡ b
Cmp Ordering.gt a b = b < a

pub cmp : (a b : ℕ) → Cmp (compare a b) a b
cmp a b = go (compare a b) (leb→le a b) (nleb→lt a b) (eqb→eq a b) (λ (e : a ≡ b). subst (λ (x : ℕ). T (eqb a x)) e (eqb_refl a))
  where
    go : (o : Ordering) → (T (is_le o) → a ≤ b) → (T (not (is_le o)) → b < a) → (T (compare_is_eq o) → a ≡ b) → (a ≡ b → T (compare_is_eq o)) → Cmp o a b
    go Ordering.lt h k e n = lt_of_le-ne (h tt) n
    go Ordering.eq h k e n = e tt
    go Ordering.gt h k e n = k tt

pub nearest_down : (t a b : ℕ) → a < b → nearest t (compare a b) ≡ t
nearest_down t a b h = go (compare a b) (cmp a b)
  where
    go : (o : Ordering) → Cmp o a b → nearest t o ≡ t
    go Ordering.lt k = refl
    go Ordering.eq k = absurd (lt_irrefl b (subst (λ (x : ℕ). x < b) k h))
    go Ordering.gt k = absurd (lt_irrefl b (lt_of_lt_of_le k (le_of_lt' h)))
      where
        le_of_lt' : {x y : ℕ} → x < y → x ≤ y
        le_of_lt' h = omega arith

pub nearest_up : (t a b : ℕ) → b < a → nearest t (compare a b) ≡ suc t
nearest_up t a b h = go (compare a b) (cmp a b)
  where
    bad : (x y : ℕ) → x < y → y < x → ⊥
    bad x y h k = omega arith

    go : (o : Ordering) → Cmp o a b → nearest t o ≡ suc t
    go Ordering.lt k = absurd (bad a b k h)
    go Ordering.eq k = absurd (lt_irrefl b (subst (λ (x : ℕ). b < x) k h))
    go Ordering.gt k = refl

-- ---- the middle of the stretch from S to S + 1, for an S that begins with the digits s: in units of 4 * H it rounds to (s + 1) / 2

-- a number in quotient and remainder
pub closest_of : (t r b : ℕ) → r < b → closest (t * b + r) b ≡ nearest t (compare (r * 2) b)
closest_of t r b h = ap (λ (x : ℕ). nearest x (compare ((t * b + r) % b * 2) b)) (digits_div t h) ∙ ap (λ (x : ℕ). nearest t (compare (x * 2) b)) (digits_mod t h)

pub middle : (s H S : ℕ) → s * H ≤ S → S < s * H + H → closest (2 * S + 1) (4 * H) ≡ (s + 1) / 2
middle s H S lo hi = go (s % 2) refl
  where
    two_two : (H : ℕ) → 4 * H ≡ 2 * (2 * H)
    two_two H = omega arith

    lead : (a H : ℕ) → a * (2 * H) + 2 * H ≡ (a + 1) * (2 * H)
    lead a H = omega (arith, add-mul a 1 (2 * H))

    go : (p : ℕ) → s % 2 ≡ p → closest (2 * S + 1) (4 * H) ≡ (s + 1) / 2
    go zero e =
        let r = 2 * (S - s * H) + 1 in
        let s-is : s ≡ s / 2 * 2 = omega arith in
        let f : s / 2 * (4 * H) ≡ 2 * (s * H) =
        ap (λ (x : ℕ). s / 2 * x) (two_two H) ∙ sym (mul_assoc (s / 2) 2 (2 * H)) ∙ ap (λ (x : ℕ). x * (2 * H)) (sym s-is) ∙ mul_left_comm s 2 H in
        let g : 2 * S + 1 ≡ s / 2 * (4 * H) + r = omega (arith, f) in
        ap (λ (x : ℕ). closest x (4 * H)) g
        ∙ closest_of (s / 2) r (4 * H) (omega arith)
        ∙ nearest_down (s / 2) (r * 2) (4 * H) (omega arith)
        ∙ omega arith
    go (suc p) e =
        let r = 2 * H + (2 * (S - s * H) + 1) in
        let s-is : s ≡ s / 2 * 2 + 1 = omega arith in
        let f : s / 2 * (4 * H) + 2 * H ≡ 2 * (s * H) =
        ap (λ (x : ℕ). s / 2 * x + 2 * H) (two_two H) ∙ ap (λ (x : ℕ). x + 2 * H) (sym (mul_assoc (s / 2) 2 (2 * H))) ∙ lead (s / 2 * 2) H ∙ ap (λ (x : ℕ). x * (2 * H)) (sym s-is) ∙ mul_left_comm s 2 H in
        let g : 2 * S + 1 ≡ s / 2 * (4 * H) + r = omega (arith, f) in
        ap (λ (x : ℕ). closest x (4 * H)) g
        ∙ closest_of (s / 2) r (4 * H) (omega arith)
        ∙ nearest_up (s / 2) (r * 2) (4 * H) (omega arith)
        ∙ omega arith

-- ---- how many digits `round` drops

pub drop_is : (h w : ℕ) → 2 ^ 52 * 2 ^ h ≤ w → w < 2 ^ 53 * 2 ^ h → size w - 53 ≡ h
drop_is h w lo hi =
    let a : size w ≤ 53 + h = size-le w (53 + h) (lt_of_lt_of_le hi (le_of_eq (sym (pow-add 2 53 h)))) in
    let b : 52 + h < size w =
    lt_of_not-le (λ (g : size w ≤ 52 + h). lt_irrefl w (lt_of_lt_of_le (size-lt w) (le_trans (pow_mono g) (le_trans (le_of_eq (pow-add 2 52 h)) lo)))) in
    omega arith

-- `omega` takes no number of more than 38 digits, so 2 ^ 1074 is a variable here
pub scaled_le : (a b K : ℕ) → a * 4 ≤ b → a * (4 * K) ≤ b * K
scaled_le a b K h = le_trans (le_of_eq (sym (mul_assoc a 4 K))) (mul-le-mul_right K h)

pub scaled_lt : (a b K : ℕ) → 0 < K → b < a * 4 → b * K < a * (4 * K)
scaled_lt a b K P h = lt_of_lt_of_le (mul-lt-mul_of_pos_right h P) (le_of_eq (mul_assoc a 4 K))

grid_is : (h s S : ℕ) → 2 ^ 53 ≤ s → s < 2 ^ 54 → s * 2 ^ h ≤ S → S < s * 2 ^ h + 2 ^ h → grid binary64 (2 * S + 1) (2 ^ 1076) ≡ (s + 1) / 2 * 2 ^ h
grid_is h s S lo hi a b =
    let n = (2 * S + 1) * 2 ^ 1074 in
    let H = 2 ^ h in
    let l : 2 ^ 53 * H ≤ s * H = mul-le-mul_right H lo in
    let u : suc s * H ≤ 2 ^ 54 * H = mul-le-mul_right H hi in
    let c : 2 ^ 52 * H * 4 ≤ 2 * S + 1 = omega (arith, l, a) in
    let f : 2 * S + 1 < 2 ^ 53 * H * 4 = omega (arith, u, b, suc-mul s H) in
    let d : size (n / 2 ^ 1076) - 53 ≡ h =
    drop_is h (n / 2 ^ 1076) ((le-div_iff_mul-le (pow_pos 1076)).1 (scaled_le (2 ^ 52 * H) (2 * S + 1) (2 ^ 1074) c)) ((div-lt_iff_lt-mul (pow_pos 1076)).1 (scaled_lt (2 ^ 53 * H) (2 * S + 1) (2 ^ 1074) (pow_pos 1074) f)) in
    let e : n * (4 * H) ≡ (2 * S + 1) * (2 ^ 1076 * H) = mul_assoc (2 * S + 1) (2 ^ 1074) (4 * H) ∙ ap (λ (x : ℕ). (2 * S + 1) * x) (sym (mul_assoc (2 ^ 1074) 4 H)) in
    ap (λ (k : ℕ). closest n (2 ^ 1076 * 2 ^ k) * 2 ^ k) d
    ∙ ap (λ (x : ℕ). x * H) (closest_same n (2 ^ 1076 * H) (2 * S + 1) (4 * H) (mul-pos (pow_pos 1076) (pow_pos h)) (mul-pos (pow_pos 2) (pow_pos h)) e ∙ middle s H S a b)

-- ---- the digits of the longer root are those of the shorter one

begins : (D s H S : ℕ) → 0 < H → Is D s → Is (D * (H * H)) S → (s * H ≤ S) × (S < s * H + H)
begins D s H S P p q =
    let a : s * H * (s * H) < (S + 1) * (S + 1) = lt_of_le_of_lt (le_trans (le_of_eq (sq_mul s H)) (mul-le-mul_right (H * H) p.0)) q.1 in
    let b : S * S < (s + 1) * H * ((s + 1) * H) = lt_of_le_of_lt q.0 (lt_of_lt_of_le (mul-lt-mul_of_pos_right p.1 (mul-pos P P)) (le_of_eq (sym (sq_mul (s + 1) H)))) in
    let c : s * H < S + 1 = sq_lt_back (s * H) (S + 1) a in
    let d : S < (s + 1) * H = sq_lt_back S ((s + 1) * H) b in
    (omega arith, omega (arith, add-mul s 1 H))

-- ---- the theorem

under_overflow : (b h q : ℕ) → root_bits b ≡ h * 2 ^ 52 + q → 2 ^ 52 ≤ q → q < 2 ^ 53 → root_bits b < 0x5ff0_0000_0000_0000 → q * 2 ^ h < 2 ^ 2098
under_overflow b h q e lo hi l =
    let g : 53 + h ≤ 2098 = omega arith in
    lt_of_lt_of_le (shl_lt {a = q} 53 h hi) (pow_mono g)

rounds_bits : (b : ℕ) → 0 < b → b < 0x7ff0_0000_0000_0000 → (S : ℕ) → Is (4 * (units (of_bits binary64 b) * 2 ^ 1074)) S → of_bits binary64 (root_bits b) ≡ round binary64 false (2 * S + 1) (2 ^ 1076)
rounds_bits b p l S z =
    let w = worked b p l in
    let r = of_bits binary64 (root_bits b) in
    let v = round binary64 false (2 * S + 1) (2 ^ 1076) in
    let g = begins (w.n * 2 ^ 54) w.s (2 ^ w.h) S (pow_pos w.h) w.is (subst (λ (y : ℕ). Is y S) (sym w.four) z) in
    let e : grid binary64 (2 * S + 1) (2 ^ 1076) ≡ (w.s + 1) / 2 * 2 ^ w.h = grid_is w.h w.s S w.s_least w.s_most g.0 g.1 in
    let o : (w.s + 1) / 2 * 2 ^ w.h < 2 ^ 2098 = under_overflow b w.h ((w.s + 1) / 2) w.bits w.q_least w.q_most (root_range b p l).1 in
    let vv = round_val binary64 (2 * S + 1) (2 ^ 1076) (subst (λ (y : ℕ). y < 2 ^ 2098) (sym e) o) in
    units_inj r v (of_bits-fits binary64 (root_bits b)) (pattern_counted (root_bits b) (below_infinity (root_bits b) (root_range b p l).1)) (round-fits binary64 false (2 * S + 1) (2 ^ 1076)) (counted_of v (grid binary64 (2 * S + 1) (2 ^ 1076)) (2 ^ 1074) vv)
    (w.value ∙ sym (units_are v false (grid binary64 (2 * S + 1) (2 ^ 1076)) vv ∙ e))
  where
    below_infinity : (b : ℕ) → b < 0x5ff0_0000_0000_0000 → b < 0x7ff0_0000_0000_0000
    below_infinity b h = omega arith

-- ---- `root` by its pattern

-- what `root` does with a number above zero
root_positive : (x : Float) → T (positive x) → root x ≡ round binary64 false (2 * whole 1600 (4 * (units x * 2 ^ 1074)) + 1) (2 ^ 1076)
unfolding root
root_positive (fin false zero e) p = absurd p
root_positive (fin false (suc m) e) p = refl
root_positive nan p = elim p [ ]
root_positive (inf _) p = elim p [ ]
root_positive (fin true _ e) p = elim p [ ]

below_2098 : (b : ℕ) → 0 < b → b < 0x7ff0_0000_0000_0000 → val b < 2 ^ 2098
below_2098 b p l =
    let sp = split b p l in
    lt_of_mul-lt-mul_right (2 ^ 53) (lt_of_le_of_lt (le_of_eq (sym sp.same)) (lt_of_lt_of_le (shl_lt {a = sig b} 53 (exp b) sp.most) (le_trans (pow_mono (add-le-add (le_refl 53) sp.few)) (le_of_eq (pow-add 2 2098 53)))))

in_reach : (u : ℕ) → u < 2 ^ 2098 → 4 * (u * 2 ^ 1074) < 4 ^ 1600
in_reach u h = lt_of_lt_of_le (mul-lt-mul_of_pos_left (shl_lt {a = u} 2098 1074 h) (pow_pos 2)) (lit≤ tt)

-- its whole root is the one that `root` takes
taken : (x : Float) → T (fits binary64 x) → T (positive x) → Is (4 * (units x * 2 ^ 1074)) (whole 1600 (4 * (units x * 2 ^ 1074)))
taken x f p =
    let w = pattern x f p in
    let b = to_bits binary64 x in
    let e : units x ≡ val b = ap units (sym (of_bits-to_bits binary64 x f)) ∙ units_are (of_bits binary64 b) false (val b) (bits_value b w.1) in
    whole_is 1600 (4 * (units x * 2 ^ 1074)) (in_reach (units x) (subst (λ (u : ℕ). u < 2 ^ 2098) (sym e) (below_2098 b w.0 w.1)))

pub root_is : (x : Float) → T (fits binary64 x) → T (positive x) → root x ≡ of_bits binary64 (root_bits (to_bits binary64 x))
root_is x f p =
    let w = pattern x f p in
    let S = whole 1600 (4 * (units x * 2 ^ 1074)) in
    root_positive x p
    ∙ sym (rounds_bits (to_bits binary64 x) w.0 w.1 S (subst (λ (y : Float). Is (4 * (units y * 2 ^ 1074)) S) (sym (of_bits-to_bits binary64 x f)) (taken x f p)))
