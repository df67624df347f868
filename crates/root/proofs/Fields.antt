-- A pattern's significand and exponent, and the number that it stands for in units of 2 ^ -1074.
use Rattle.std.proofs.Common.{◌≡◌, ℕ, suc, ◌+◌, ◌-◌, ◌*◌, ◌/◌, ◌%◌, ◌^◌, ◌<◌, ◌≤◌, Bool, true, false, cond, not, T, eqb, ltb, sym, refl, ap, ◌∙◌, subst, le_trans, le_of_eq, lt_of_lt_of_le, lt_of_le_of_lt, lt_irrefl, mul-le-mul_right, mul_assoc, lt_of_not-le, arith, eqb→eq, ltb→lt, nltb→le, T_not, pow_mono, pow-add, shl_lt}
use native.Mathlib.Nat.{mul-mul-mul_comm}
use lib.Ieee.Fits.{eq→eqb}
use lib.Count.{count_leading_zeros, leading_top}
use Rattle.root.specs.Root.{whole}
use Rattle.root.specs.Parts.{sig, exp, even, root_bits}
use Rattle.root.proofs.Whole.{Is, whole_is, sq_lt_back}

-- the number in units of 2 ^ -1074
abbrev pub val : ℕ → ℕ
val b = cond (ltb b (2 ^ 52)) b ((2 ^ 52 + b % 2 ^ 52) * 2 ^ (b / 2 ^ 52 - 1))

pub record Split (b m x v : ℕ) : Type 0 where
  pub least : 2 ^ 52 ≤ m
  pub most : m < 2 ^ 53
  pub some : 1 ≤ x
  pub few : x ≤ 2098
  pub same : m * 2 ^ x ≡ v * 2 ^ 53

pub low_zeros : (b : ℕ) → 0 < b → b < 2 ^ 52 → (j : ℕ) × (count_leading_zeros 64 b + suc j ≡ 64) × (2 ^ j ≤ b) × (b < 2 ^ suc j) × (j < 52)
low_zeros b p h =
    let t = leading_top 64 b p (omega arith) in
    (t.0, t.1, t.2, t.3, lt_of_not-le (λ (g : 52 ≤ t.0). lt_irrefl b (lt_of_lt_of_le h (le_trans (pow_mono g) t.2))))

pub split_low : (b : ℕ) → 0 < b → b < 2 ^ 52 → Split b (b * 2 ^ (count_leading_zeros 64 b - 11)) (64 - count_leading_zeros 64 b) b
split_low b p h =
    let t = low_zeros b p h in
    let z = count_leading_zeros 64 b in
    let j = t.0 in
    let a : j + (z - 11) ≡ 52 = omega (arith, t.1, t.4) in
    let c : suc j + (z - 11) ≡ 53 = omega (arith, a) in
    let d : z - 11 + (64 - z) ≡ 53 = omega (arith, t.1, t.4) in
    record {
      least = subst (λ (x : ℕ). 2 ^ x ≤ b * 2 ^ (z - 11)) a (le_trans (le_of_eq (pow-add 2 j (z - 11))) (mul-le-mul_right (2 ^ (z - 11)) t.2));
      most = subst (λ (x : ℕ). b * 2 ^ (z - 11) < 2 ^ x) c (shl_lt {a = b} (suc j) (z - 11) t.3);
      some = omega (arith, t.1);
      few = omega arith;
      same = mul_assoc b (2 ^ (z - 11)) (2 ^ (64 - z)) ∙ ap (λ (x : ℕ). b * x) (sym (pow-add 2 (z - 11) (64 - z)) ∙ ap (λ (x : ℕ). 2 ^ x) d);
    }

split_high : (b : ℕ) → 2 ^ 52 ≤ b → b < 0x7ff0_0000_0000_0000 → Split b (2 ^ 52 + b % 2 ^ 52) (b / 2 ^ 52 + 52) ((2 ^ 52 + b % 2 ^ 52) * 2 ^ (b / 2 ^ 52 - 1))
split_high b h l =
    let d : b / 2 ^ 52 + 52 ≡ b / 2 ^ 52 - 1 + 53 = omega arith in
    record {
      least = omega arith;
      most = omega arith;
      some = omega arith;
      few = omega arith;
      same = ap (λ (x : ℕ). (2 ^ 52 + b % 2 ^ 52) * 2 ^ x) d ∙ ap (λ (x : ℕ). (2 ^ 52 + b % 2 ^ 52) * x) (pow-add 2 (b / 2 ^ 52 - 1) 53) ∙ sym (mul_assoc (2 ^ 52 + b % 2 ^ 52) (2 ^ (b / 2 ^ 52 - 1)) (2 ^ 53));
    }

pub split : (b : ℕ) → 0 < b → b < 0x7ff0_0000_0000_0000 → Split b (sig b) (exp b) (val b)
split b p l = go (ltb b (2 ^ 52)) (ltb→lt b (2 ^ 52)) (nltb→le b (2 ^ 52))
  where
    go : (t : Bool) → (T t → b < 2 ^ 52) → (T (not t) → 2 ^ 52 ≤ b)
        → Split b (cond t (b * 2 ^ (count_leading_zeros 64 b - 11)) (2 ^ 52 + b % 2 ^ 52)) (cond t (64 - count_leading_zeros 64 b) (b / 2 ^ 52 + 52)) (cond t b ((2 ^ 52 + b % 2 ^ 52) * 2 ^ (b / 2 ^ 52 - 1)))
    go true h k = split_low b p (h tt)
    go false h k = split_high b (k tt) l

-- ---- with an even exponent: n has 53 or 54 digits, and the number is n * 2 ^ 2 h / 2 ^ .. for the h of the result

pub record Even (m x n : ℕ) : Type 0 where
  pub least : 2 ^ 52 ≤ n
  pub most : n < 2 ^ 54
  pub last : n ≤ 2 ^ 54 - 2
  pub same : n * 2 ^ 52 * (2 ^ ((x + 969) / 2) * 2 ^ ((x + 969) / 2)) ≡ m * 2 ^ x * 2 ^ 1021

powers : (h k x : ℕ) → h + h ≡ x + k → 2 ^ h * 2 ^ h ≡ 2 ^ x * 2 ^ k
powers h k x e = sym (pow-add 2 h h) ∙ ap (λ (y : ℕ). 2 ^ y) e ∙ pow-add 2 x k

pub paired : (m x : ℕ) → 2 ^ 52 ≤ m → m < 2 ^ 53 → Even m x (even m x)
paired m x a b = go (eqb (x % 2) 0) (eqb→eq (x % 2) 0) (λ (n : T (not (eqb (x % 2) 0))) (e : x % 2 ≡ 0). T_not (eqb (x % 2) 0) n (eq→eqb e))
  where
    go : (t : Bool) → (T t → x % 2 ≡ 0) → (T (not t) → x % 2 ≡ 0 → ⊥) → Even m x (cond t (m * 2) m)
    go true h k =
        let e : (x + 969) / 2 + (x + 969) / 2 ≡ x + 968 = omega (arith, h tt) in
        record {
          least = omega arith;
          most = omega arith;
          last = omega arith;
          same = ap (λ (y : ℕ). m * 2 * 2 ^ 52 * y) (powers ((x + 969) / 2) 968 x e) ∙ ap (λ (y : ℕ). y * (2 ^ x * 2 ^ 968)) (mul_assoc m 2 (2 ^ 52)) ∙ mul-mul-mul_comm m (2 ^ 53) (2 ^ x) (2 ^ 968);
        }
    go false h k =
        let e : (x + 969) / 2 + (x + 969) / 2 ≡ x + 969 = omega (arith, k tt) in
        record {
          least = omega arith;
          most = omega arith;
          last = omega arith;
          same = ap (λ (y : ℕ). m * 2 ^ 52 * y) (powers ((x + 969) / 2) 969 x e) ∙ mul-mul-mul_comm m (2 ^ 52) (2 ^ x) (2 ^ 969);
        }

-- ---- the whole root of n * 2 ^ 54

pub whole_of : (n : ℕ) → n < 2 ^ 54 → Is (n * 2 ^ 54) (whole 54 (n * 2 ^ 54))
whole_of n h = whole_is 54 (n * 2 ^ 54) (omega arith)

pub whole_lt : (n : ℕ) → n < 2 ^ 54 → whole 54 (n * 2 ^ 54) < 2 ^ 54
whole_lt n h =
    let u : n * 2 ^ 54 < 2 ^ 54 * 2 ^ 54 = omega arith in
    sq_lt_back (whole 54 (n * 2 ^ 54)) (2 ^ 54) (lt_of_le_of_lt (whole_of n h).0 u)

pub root_bits_is : (b : ℕ) → root_bits b ≡ (exp b + 969) / 2 * 2 ^ 52 + (whole 54 (even (sig b) (exp b) * 2 ^ 54) + 1) / 2
unfolding root_bits
root_bits_is b = refl

pub root_bits_le : (b : ℕ) → 0 < b → b < 0x7ff0_0000_0000_0000 → root_bits b ≤ 0x7ff0_0000_0000_0000
root_bits_le b p l =
    let sp = split b p l in
    let ev = paired (sig b) (exp b) sp.least sp.most in
    omega (arith, root_bits_is b, sp.few, whole_lt (even (sig b) (exp b)) ev.most)
