-- The whole root: `whole k n` is the largest s with s * s ≤ n, for an n below 4 ^ k.
use Rattle.std.proofs.Common.{◌≡◌, ℕ, zero, suc, ◌+◌, ◌*◌, ◌/◌, ◌^◌, ◌<◌, ◌≤◌, Bool, true, false, cond, not, T, leb, sym, ap, ◌∙◌, le_trans, mul-le-mul_right, mul_assoc, mul_comm, add-mul, mul-le-mul_left, pow-suc, lt_of_not-le, mul-add, not-le_of_lt, arith, leb→le}
use native.Mathlib.Nat.{mul-mul-mul_comm}
use lib.Dec.{nleb→lt}
use Rattle.root.specs.Root.{next, whole}

-- ---- squares

pub sq_mono : {a b : ℕ} → a ≤ b → a * a ≤ b * b
sq_mono {a} {b} h = le_trans (mul-le-mul_left a h) (mul-le-mul_right b h)

pub sq_lt_back : (a b : ℕ) → a * a < b * b → a < b
sq_lt_back a b h = lt_of_not-le (λ (g : b ≤ a). not-le_of_lt h (sq_mono g))

-- (2 s) ^ 2, (2 s + 1) ^ 2 and (2 s + 2) ^ 2
pub sq_even : (s : ℕ) → s * 2 * (s * 2) ≡ 4 * (s * s)
sq_even s = mul_assoc s 2 (s * 2) ∙ ap (λ (x : ℕ). s * x) (four s) ∙ sym (mul_assoc s s 4) ∙ mul_comm (s * s) 4
  where
    four : (s : ℕ) → 2 * (s * 2) ≡ s * 4
    four s = omega arith

pub sq_suc : (a : ℕ) → (a + 1) * (a + 1) ≡ a * a + 2 * a + 1
sq_suc a =
    let e : (a + 1) * (a + 1) ≡ a * a + a * 1 + (1 * a + 1) = add-mul a 1 (a + 1) ∙ ap (λ (x : ℕ). x + 1 * (a + 1)) (mul-add a a 1) ∙ ap (λ (x : ℕ). a * a + a * 1 + x) (mul-add 1 a 1) in
    omega arith

pub sq_mul : (w h : ℕ) → w * h * (w * h) ≡ w * w * (h * h)
sq_mul w h = mul-mul-mul_comm w h w h

-- s is the whole root of n
abbrev pub Is : ℕ → ℕ → Type 0
Is n s = (s * s ≤ n) × (n < (s + 1) * (s + 1))

next_is : (n s : ℕ) → Is (n / 4) s → Is n (next n s)
next_is n s p = go (leb ((s * 2 + 1) * (s * 2 + 1)) n) (leb→le ((s * 2 + 1) * (s * 2 + 1)) n) (nleb→lt ((s * 2 + 1) * (s * 2 + 1)) n)
  where
    go : (b : Bool) → (T b → (s * 2 + 1) * (s * 2 + 1) ≤ n) → (T (not b) → n < (s * 2 + 1) * (s * 2 + 1)) → Is n (cond b (s * 2 + 1) (s * 2))
    go true h k =
        let u : n < (s * 2 + 1 + 1) * (s * 2 + 1 + 1) =
        omega (arith, p.1, sq_suc s, sq_even s, sq_suc (s * 2), sq_suc (s * 2 + 1)) in
        (h tt, u)
    go false h k =
        let u : s * 2 * (s * 2) ≤ n = omega (arith, p.0, sq_even s) in
        (u, k tt)

quarter_lt : (n k : ℕ) → n < 4 ^ suc k → n / 4 < 4 ^ k
quarter_lt n k h = omega (arith, pow-suc 4 k)

pub whole_is : (k n : ℕ) → n < 4 ^ k → Is n (whole k n)
unfolding whole
whole_is zero n h = (omega arith, omega arith)
whole_is (suc k) n h = next_is n (whole k (n / 4)) (whole_is k (n / 4) (quarter_lt n k h))

-- ---- the whole root, halved and rounded up

pub halved : (n s q : ℕ) → Is (n * 2 ^ 54) s → q * q < n * 2 ^ 52 + q → n * 2 ^ 52 ≤ q * q + q → q ≡ (s + 1) / 2
halved n s q p lo hi =
    let a : s < 2 * q + 1 = sq_lt_back s (2 * q + 1) (omega (arith, p.0, sq_even q, sq_suc (q * 2), ap (λ (x : ℕ). x * x) (twice q))) in
    let b : 2 * q < s + 2 = back q lo in
    omega arith
  where
    twice : (q : ℕ) → 2 * q + 1 ≡ q * 2 + 1
    twice q = omega arith

    back : (q : ℕ) → q * q < n * 2 ^ 52 + q → 2 * q < s + 2
    back zero lo = omega arith
    back (suc k) lo =
        let u : 2 * k + 1 < s + 1 = sq_lt_back (2 * k + 1) (s + 1) (omega (arith, p.1, sq_even k, sq_suc (k * 2), sq_suc k, ap (λ (x : ℕ). x * x) (twice k), ap (λ (x : ℕ). x * x) (one k))) in
        omega arith
      where
        one : (k : ℕ) → suc k ≡ k + 1
        one k = omega arith
