-- The root's working for a bit pattern: the whole numbers that the code goes through, and what double they make.
use Rattle.std.proofs.Common.{◌≡◌, ℕ, zero, suc, ◌+◌, ◌-◌, ◌*◌, ◌/◌, ◌%◌, ◌^◌, ◌<◌, ◌≤◌, Bool, true, false, cond, ◌&&◌, T, eqb, ltb, leb, ℤ, pos, negsuc, sym, refl, ap, ◌∙◌, subst, inl, inr, true≢false, lt_of_lt_of_le, le_of_suc-le-suc, lt_irrefl, mul_assoc, lt_of_not-le, zero-mul, mul-one, div-one, mul-div_cancel, arith, ltb→lt, leb→le, pow_pos, pow-add, le-ltb, leb-false}
use native.Mathlib.Nat.{zero-div}
use lib.Pow.{pow-lt}
use lib.Ieee.{Float, nan, inf, fin, binary64, up, down, size, of_fields, of_bits, to_bits, fits}
use lib.Ieee.Fits.{down_pos, and_l, and_r}
use lib.Ieee.Bits.{of_bits-to_bits, to_bits-lt}
use lib.Ieee.Exact.{HasValue}
use lib.Ieee.Positive.{positive}
use Rattle.root.specs.Root.{whole, units}
use Rattle.root.specs.Parts.{sig, exp, even, root_bits}
use Rattle.root.specs.Nearest.{counted}
use Rattle.root.proofs.Whole.{Is}
use Rattle.root.proofs.Fields.{val, split, paired, whole_of, whole_lt, root_bits_is}
use Rattle.root.proofs.Patterns.{of_bits_is, bits_value, fields_value, fields_top, units_of, top_or_less}
use Rattle.root.proofs.Middle.{s_ge, q_ge, q_lt}

-- ---- units

pub units_are : (v : Float) (s : Bool) (a : ℕ) → HasValue v s a (2 ^ 1074) → units v ≡ a
units_are (fin t m e) s a p = ap (λ (x : ℕ). x / down e) p.1 ∙ mul-div_cancel a (down_pos e)
units_are nan s a p = elim p [ ]
units_are (inf _) s a p = elim p [ ]

pub counted_of : (v : Float) (a c : ℕ) → HasValue v false a c → T (counted v)
counted_of (fin true m e) a c p = absurd (true≢false p.0)
counted_of (fin false m e) a c p = tt
counted_of nan a c p = elim p [ ]
counted_of (inf _) a c p = elim p [ ]

pow_le_back : (a l : ℕ) → 2 ^ a ≤ 2 ^ l → a ≤ l
pow_le_back a l h = le_of_suc-le-suc (lt_of_not-le (λ (g : suc l ≤ a). lt_irrefl (2 ^ l) (lt_of_lt_of_le (pow-lt g) h)))

-- a double that is not negative is p * 2 ^ k units, for a p of 53 digits at most
abbrev pub Digits : ℕ → Type 0
Digits u = (p : ℕ) × (k : ℕ) × (u ≡ p * 2 ^ k) × (p < 2 ^ 53)

place : (m : ℕ) (e : ℤ) → m < 2 ^ 53 → down e ≤ 2 ^ 1074 → Digits (m * up e * 2 ^ 1074 / down e)
place m (pos a) h l = (m, a + 1074, div-one (m * 2 ^ a * 2 ^ 1074) ∙ mul_assoc m (2 ^ a) (2 ^ 1074) ∙ ap (λ (x : ℕ). m * x) (sym (pow-add 2 a 1074)), h)
place m (negsuc a) h l =
    let g : suc a ≤ 1074 = pow_le_back (suc a) 1074 l in
    let j : 1074 - suc a + suc a ≡ 1074 = omega arith in (
      m,
      1074 - suc a,
      ap (λ (x : ℕ). x * 2 ^ 1074 / 2 ^ suc a) (mul-one m)
          ∙ ap (λ (x : ℕ). m * x / 2 ^ suc a) (ap (λ (x : ℕ). 2 ^ x) (sym j) ∙ pow-add 2 (1074 - suc a) (suc a))
          ∙ ap (λ (x : ℕ). x / 2 ^ suc a) (sym (mul_assoc m (2 ^ (1074 - suc a)) (2 ^ suc a)))
          ∙ mul-div_cancel (m * 2 ^ (1074 - suc a)) (pow_pos (suc a)),
      h,
    )

pub digits : (y : Float) → T (fits binary64 y) → T (counted y) → Digits (units y)
unfolding fits
digits (fin false zero e) f c = (0, 0, ap (λ (x : ℕ). x * 2 ^ 1074 / down e) (zero-mul (up e)) ∙ zero-div (down e), pow_pos 53)
digits (fin false (suc m) e) f c =
    let A = eqb (suc m % 2) 1 in
    let B = ltb (suc m) (2 ^ 53) in
    let C = leb (down e) (2 ^ 1074) in
    let D = ltb (suc m * up e) (2 ^ 1024 * down e) in
    place (suc m) e (ltb→lt (suc m) (2 ^ 53) (and_r A B (and_l (A && B) C (and_l (A && B && C) D f)))) (leb→le (down e) (2 ^ 1074) (and_r (A && B) C (and_l (A && B && C) D f)))
digits nan f c = elim c [ ]
digits (inf _) f c = elim c [ ]
digits (fin true _ e) f c = elim c [ ]

-- ---- the pattern of a finite value above zero

positive_fields : (s : Bool) (x t : ℕ) → x < 2048 → T (positive (of_fields binary64 s x t)) → (s ≡ false) × (x < 2047)
positive_fields s x t h p = elim (top_or_less x h) [
  | inl e ↦ absurd (none (eqb t 0) (subst (λ (v : Float). T (positive v)) (ap (λ (y : ℕ). of_fields binary64 s y t) e ∙ fields_top s t) p))
  | inr l ↦ (sign (of_fields binary64 s x t) (units_of x t) (fields_value s x t l) p, l)
]
  where
    none : (c : Bool) → T (positive (cond c (inf s) nan)) → ⊥
    none true p = p
    none false p = p

    sign : (v : Float) (a : ℕ) → HasValue v s a (2 ^ 1074) → T (positive v) → s ≡ false
    sign (fin false m e) a q p = sym q.0
    sign nan a q p = elim q [ ]
    sign (inf _) a q p = elim q [ ]
    sign (fin true m e) a q p = elim p [ ]

no_zero : T (positive (of_bits binary64 0)) → ⊥
unfolding of_bits
no_zero t = t

pub pattern : (x : Float) → T (fits binary64 x) → T (positive x) → (0 < to_bits binary64 x) × (to_bits binary64 x < 0x7ff0_0000_0000_0000)
pattern x f p =
    let b = to_bits binary64 x in
    let o = of_bits-to_bits binary64 x f in
    let l : b < 2 ^ 64 = to_bits-lt binary64 x f in
    let q = positive_fields (leb (2 ^ 63) b) (b % 2 ^ 63 / 2 ^ 52) (b % 2 ^ 52) (omega arith) (subst (λ (v : Float). T (positive v)) (sym o ∙ of_bits_is b) p) in
    let small : b < 2 ^ 63 = leb-false (2 ^ 63) b q.0 in
    (above_zero b (λ (z : b ≡ 0). no_zero (subst (λ (v : Float). T (positive v)) (sym o ∙ ap (of_bits binary64) z) p)), omega (arith, q.1))
  where
    above_zero : (b : ℕ) → (b ≡ 0 → ⊥) → 0 < b
    above_zero b h = omega arith

-- ---- the root's units

pub root_val : (h q : ℕ) → 2 ^ 52 ≤ q → q < 2 ^ 53 → val (h * 2 ^ 52 + q) ≡ q * 2 ^ h
root_val h q lo hi =
    let b = h * 2 ^ 52 + q in
    let a : 2 ^ 52 + b % 2 ^ 52 ≡ q = omega arith in
    let c : b / 2 ^ 52 - 1 ≡ h = omega arith in
    ap (λ (t : Bool). cond t b ((2 ^ 52 + b % 2 ^ 52) * 2 ^ (b / 2 ^ 52 - 1))) (le-ltb b (2 ^ 52) (omega arith))
    ∙ ap (λ (x : ℕ). x * 2 ^ (b / 2 ^ 52 - 1)) a
    ∙ ap (λ (x : ℕ). q * 2 ^ x) c

-- 4 * x in the units of a square, of which D is 2 ^ 54 times the significand
four_times : (v m x n H : ℕ) → n * 2 ^ 52 * (H * H) ≡ m * 2 ^ x * 2 ^ 1021 → m * 2 ^ x ≡ v * 2 ^ 53 → n * 2 ^ 54 * (H * H) ≡ 4 * (v * 2 ^ 1074)
four_times v m x n H e f =
    let a : n * 2 ^ 54 ≡ 4 * (n * 2 ^ 52) = omega arith in
    let c : v * 2 ^ 53 * 2 ^ 1021 ≡ v * 2 ^ 1074 = mul_assoc v (2 ^ 53) (2 ^ 1021) in
    ap (λ (y : ℕ). y * (H * H)) a ∙ mul_assoc 4 (n * 2 ^ 52) (H * H) ∙ ap (λ (y : ℕ). 4 * y) (e ∙ ap (λ (y : ℕ). y * 2 ^ 1021) f ∙ c)

-- The working for a pattern b: n, of 53 or 54 digits, with an even exponent; s, the whole root of n * 2 ^ 54; and the root's significand (s + 1) / 2 and exponent h
pub record Worked (b : ℕ) : Type 0 where
  pub n : ℕ
  pub s : ℕ
  pub h : ℕ
  pub least : 2 ^ 52 ≤ n
  pub last : n ≤ 2 ^ 54 - 2
  pub is : Is (n * 2 ^ 54) s
  pub s_least : 2 ^ 53 ≤ s
  pub s_most : s < 2 ^ 54
  pub q_least : 2 ^ 52 ≤ (s + 1) / 2
  pub q_most : (s + 1) / 2 < 2 ^ 53
  pub bits : root_bits b ≡ h * 2 ^ 52 + (s + 1) / 2
  pub range : (0x1e60_0000_0000_0000 ≤ root_bits b) × (root_bits b < 0x5ff0_0000_0000_0000)
  pub value : units (of_bits binary64 (root_bits b)) ≡ (s + 1) / 2 * 2 ^ h
  pub four : n * 2 ^ 54 * (2 ^ h * 2 ^ h) ≡ 4 * (units (of_bits binary64 b) * 2 ^ 1074)

pub worked : (b : ℕ) → 0 < b → b < 0x7ff0_0000_0000_0000 → Worked b
worked b p l =
    let sp = split b p l in
    let m = sig b in
    let x = exp b in
    let n = even m x in
    let ev = paired m x sp.least sp.most in
    let h = (x + 969) / 2 in
    let s = whole 54 (n * 2 ^ 54) in
    let is : Is (n * 2 ^ 54) s = whole_of n ev.most in
    let q = (s + 1) / 2 in
    let lo : 2 ^ 52 ≤ q = q_ge n s ev.least ev.last is in
    let hi : q < 2 ^ 53 = q_lt n s ev.least ev.last is in
    let rb : root_bits b ≡ h * 2 ^ 52 + q = root_bits_is b in
    let less : root_bits b < 0x7ff0_0000_0000_0000 = omega (arith, rb, sp.few) in
    let r = of_bits binary64 (root_bits b) in
    let xu : units (of_bits binary64 b) ≡ val b = units_are (of_bits binary64 b) false (val b) (bits_value b l) in
    record {
      n = n;
      s = s;
      h = h;
      least = ev.least;
      last = ev.last;
      is = is;
      s_least = s_ge n s ev.least ev.last is;
      s_most = whole_lt n ev.most;
      q_least = lo;
      q_most = hi;
      bits = rb;
      range = (omega (arith, rb, sp.some), omega (arith, rb, sp.few));
      value = units_are r false (val (root_bits b)) (bits_value (root_bits b) less) ∙ ap val rb ∙ root_val h q lo hi;
      four = four_times (val b) m x n (2 ^ h) ev.same sp.same ∙ ap (λ (y : ℕ). 4 * (y * 2 ^ 1074)) (sym xu);
    }

-- the root's pattern lies from that of 2 ^ -537 to below that of 2 ^ 512
pub root_range : (b : ℕ) → 0 < b → b < 0x7ff0_0000_0000_0000 → (0x1e60_0000_0000_0000 ≤ root_bits b) × (root_bits b < 0x5ff0_0000_0000_0000)
root_range b p l = (worked b p l).range

-- ---- one double for a number of units

-- a finite double that is not negative, from its units
pub from_units : (r : Float) → T (counted r) → to_bits binary64 r ≡ 0 + (size (units r) - 53) * 2 ^ 52 + units r / 2 ^ (size (units r) - 53)
unfolding to_bits
from_units (fin false m e) c = refl
from_units nan c = elim c [ ]
from_units (inf _) c = elim c [ ]
from_units (fin true m e) c = elim c [ ]

pub units_inj : (r s : Float) → T (fits binary64 r) → T (counted r) → T (fits binary64 s) → T (counted s) → units r ≡ units s → r ≡ s
units_inj r s f c g d e =
    sym (of_bits-to_bits binary64 r f)
    ∙ ap (of_bits binary64) (from_units r c ∙ ap (λ (u : ℕ). 0 + (size u - 53) * 2 ^ 52 + u / 2 ^ (size u - 53)) e ∙ sym (from_units s d))
    ∙ of_bits-to_bits binary64 s g

pub pattern_counted : (b : ℕ) → b < 0x7ff0_0000_0000_0000 → T (counted (of_bits binary64 b))
pattern_counted b h = counted_of (of_bits binary64 b) (val b) (2 ^ 1074) (bits_value b h)
