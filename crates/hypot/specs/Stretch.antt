-- The stretch of numbers in which √(4 * n) lies: from s * 2 ^ k up to (s + 1) * 2 ^ k. The working of `length` ends with one. Laws only.
use Rattle.std.specs.Prelude.{◌≡◌, ◌⊎◌, ℕ, zero, suc, ◌+◌, ◌*◌, ◌/◌, ◌%◌, ◌^◌, ◌≤◌, ◌<◌}
use Rattle.std.proofs.Math.Path.{sym, ap}
use Rattle.std.proofs.Common.{◌∙◌, le_trans, le_of_eq, le_of_lt, lt_of_lt_of_le, lt_of_le_of_lt, mul-le-mul, mul-le-mul_left, mul-le-mul_right, mul-lt-mul_of_pos_right, lt_of_mul-lt-mul_right, mul_assoc, add-mul, suc-mul, add-one, arith, pow_pos, pow_mono}
use Rattle.std.proofs.Math.Nat.{mul-pos, mul_comm, pow-succ'}
use Rattle.std.proofs.Math.Pow.{pow-add}
use Rattle.root.proofs.Whole.{sq_mono, sq_lt_back, sq_even, sq_suc, sq_mul}

-- where t is zero, √(4 * n) is where the stretch begins
pub record Stretch (n s k t : ℕ) : Type 0 where
  pub least : s * 2 ^ k * (s * 2 ^ k) ≤ 4 * n
  pub most : 4 * n < (s + 1) * 2 ^ k * ((s + 1) * 2 ^ k)
  pub start : t ≡ 0 → s * 2 ^ k * (s * 2 ^ k) ≡ 4 * n
  pub inside : 0 < t → s * 2 ^ k * (s * 2 ^ k) < 4 * n

-- and s has 54 digits, or fewer where they are units of 2 ^ -1075
pub record Full (n s k t : ℕ) : Type 0 where
  pub stretch : Stretch n s k t
  pub few : s < 2 ^ 54
  pub all : (k ≡ 0) ⊎ (2 ^ 53 ≤ s)

pub sq_lt : {a b : ℕ} → a < b → a * a < b * b
sq_lt {a} {b} h = lt_of_le_of_lt (mul-le-mul_left a (le_of_lt h)) (mul-lt-mul_of_pos_right h (pos h))
  where
    pos : {a b : ℕ} → a < b → 0 < b
    pos h = omega arith

-- ---- the squares of m * 2 ^ i and n * 2 ^ j, and a whole root

module _ (m n i j d p N lost s r : ℕ) (id : i ≡ j + d) (pd : p ≡ 2 ^ d * 2 ^ d) (sum : N * p + lost ≡ 4 * (m * m * p + n * n)) (less : lost < p) (root : s * s + r ≡ N) (rest : r ≤ 2 * s) where
  J : ℕ
  J = 2 ^ j * 2 ^ j

  J_pos : 0 < J
  unfolding J
  J_pos = mul-pos (pow_pos j) (pow_pos j)

  powers : 2 ^ i * 2 ^ i ≡ p * J
  unfolding J
  powers =
      let e : 2 ^ i ≡ 2 ^ d * 2 ^ j = ap (λ (x : ℕ). 2 ^ x) id ∙ pow-add 2 j d ∙ mul_comm (2 ^ j) (2 ^ d) in
      ap (λ (x : ℕ). x * x) e ∙ sq_mul (2 ^ d) (2 ^ j) ∙ ap (λ (x : ℕ). x * (2 ^ j * 2 ^ j)) (sym pd)

  side : (x : ℕ) → x * 2 ^ i * (x * 2 ^ i) ≡ x * x * p * J
  side x = sq_mul x (2 ^ i) ∙ ap (λ (y : ℕ). x * x * y) powers ∙ sym (mul_assoc (x * x) p J)

  four : 4 * (m * 2 ^ i * (m * 2 ^ i) + n * 2 ^ j * (n * 2 ^ j)) ≡ (N * p + lost) * J
  unfolding J
  four =
      ap (λ (x : ℕ). 4 * (x + n * 2 ^ j * (n * 2 ^ j))) (side m)
      ∙ ap (λ (x : ℕ). 4 * (m * m * p * J + x)) (sq_mul n (2 ^ j))
      ∙ ap (λ (x : ℕ). 4 * x) (sym (add-mul (m * m * p) (n * n) J))
      ∙ sym (mul_assoc 4 (m * m * p + n * n) J)
      ∙ ap (λ (x : ℕ). x * J) (sym sum)

  split : N * p ≡ s * s * p + r * p
  split = ap (λ (x : ℕ). x * p) (sym root) ∙ add-mul (s * s) r p

  below : N * p + lost < (s + 1) * (s + 1) * p
  below =
      let a : suc N ≤ (s + 1) * (s + 1) = omega (arith, sq_suc s) in
      omega (arith, mul-le-mul_right p a, suc-mul N p)

  above : (r : ℕ) → N * p ≡ s * s * p + r * p → 0 < r + lost → s * s * p < N * p + lost
  above zero e h = omega arith
  above (suc k) e h = omega (arith, suc-mul k p)

  pub made : Stretch (m * 2 ^ i * (m * 2 ^ i) + n * 2 ^ j * (n * 2 ^ j)) s i (r + lost)
  made = record {
    least = le_trans (le_of_eq (side s)) (le_trans (mul-le-mul_right J (omega (arith, split))) (le_of_eq (sym four)));
    most = lt_of_le_of_lt (le_of_eq four) (lt_of_lt_of_le (mul-lt-mul_of_pos_right below J_pos) (le_of_eq (sym (side (s + 1)))));
    start = λ z.
        let a : r ≡ 0 = omega arith in
        let b : s * s * p ≡ N * p + lost = omega (arith, split, ap (λ (x : ℕ). x * p) a) in
        side s ∙ ap (λ (x : ℕ). x * J) b ∙ sym four;
    inside = λ h. lt_of_le_of_lt (le_of_eq (side s)) (lt_of_lt_of_le (mul-lt-mul_of_pos_right (above r split h) J_pos) (le_of_eq (sym four)));
  }

-- ---- where n * 2 ^ j is so small that it does not count

pub far : (m n i j : ℕ) → 2 ^ 52 ≤ m → n < 2 ^ 53 → j + 27 ≤ i → Stretch (m * 2 ^ i * (m * 2 ^ i) + n * 2 ^ j * (n * 2 ^ j)) (2 * m) i (n * 2 ^ j * (n * 2 ^ j))
far m n i j lo hi gap =
    let M = m * 2 ^ i in
    let X = n * 2 ^ j * (n * 2 ^ j) in
    let P = 2 ^ i * 2 ^ i in
    let J = 2 ^ j * 2 ^ j in
    let a : 2 * m * 2 ^ i * (2 * m * 2 ^ i) ≡ 4 * (M * M) = ap (λ (x : ℕ). x * x) (mul_assoc 2 m (2 ^ i) ∙ mul_comm 2 M) ∙ sq_even M in
    let b : J * 2 ^ 54 ≤ P = le_trans (le_of_eq (sym (sq_mul (2 ^ j) (2 ^ 27)))) (sq_mono (le_trans (le_of_eq (sym (pow-add 2 j 27))) (pow_mono gap))) in
    let c : n * n ≤ 2 ^ 106 = mul-le-mul (le_of_lt hi) (le_of_lt hi) in
    let d : X ≤ 2 ^ 106 * J = le_trans (le_of_eq (sq_mul n (2 ^ j))) (mul-le-mul_right J c) in
    let e : 2 ^ 52 * P ≤ m * P = mul-le-mul_right P lo in
    let f : (2 * m + 1) * 2 ^ i * ((2 * m + 1) * 2 ^ i) ≡ 4 * (m * m * P) + 4 * (m * P) + P = sq_mul (2 * m + 1) (2 ^ i) ∙ wide m P in
    let g : M * M ≡ m * m * P = sq_mul m (2 ^ i) in
    let h : 0 < J = mul-pos (pow_pos j) (pow_pos j) in
    record {
      least = omega arith;
      most = omega arith;
      start = λ z. omega arith;
      inside = λ z. omega arith;
    }
  where
    wide : (m P : ℕ) → (2 * m + 1) * (2 * m + 1) * P ≡ 4 * (m * m * P) + 4 * (m * P) + P
    wide m P =
        let a : (2 * m + 1) * (2 * m + 1) ≡ 4 * (m * m) + 4 * m + 1 = omega (arith, sq_suc (2 * m), ap (λ (x : ℕ). x * x) (mul_comm 2 m), sq_even m) in
        ap (λ (x : ℕ). x * P) a
        ∙ omega (arith, add-mul (4 * (m * m) + 4 * m) 1 P, add-mul (4 * (m * m)) (4 * m) P, mul_assoc 4 (m * m) P, mul_assoc 4 m P)

-- ---- one digit less

pub halve : (n s k t : ℕ) → Stretch n s k t → Stretch n (s / 2) (k + 1) (t + s % 2)
halve n s k t w =
    let H = 2 ^ k in
    let e : 2 ^ (k + 1) ≡ 2 * H = ap (λ (x : ℕ). 2 ^ x) (add-one k) ∙ pow-succ' 2 k in
    let f : s / 2 * 2 ^ (k + 1) ≡ s / 2 * 2 * H = ap (λ (x : ℕ). s / 2 * x) e ∙ sym (mul_assoc (s / 2) 2 H) in
    let g : (s / 2 + 1) * 2 ^ (k + 1) ≡ (s / 2 + 1) * 2 * H = ap (λ (x : ℕ). (s / 2 + 1) * x) e ∙ sym (mul_assoc (s / 2 + 1) 2 H) in
    let q : s / 2 * 2 ^ (k + 1) * (s / 2 * 2 ^ (k + 1)) ≡ s / 2 * 2 * H * (s / 2 * 2 * H) = ap (λ (x : ℕ). x * x) f in
    let u : (s / 2 + 1) * 2 ^ (k + 1) * ((s / 2 + 1) * 2 ^ (k + 1)) ≡ (s / 2 + 1) * 2 * H * ((s / 2 + 1) * 2 * H) = ap (λ (x : ℕ). x * x) g in
    let a : s / 2 * 2 ≤ s = omega arith in
    let b : s + 1 ≤ (s / 2 + 1) * 2 = omega arith in
    record {
      least = le_trans (le_of_eq q) (le_trans (sq_mono (mul-le-mul_right H a)) w.least);
      most = lt_of_lt_of_le w.most (le_trans (sq_mono (mul-le-mul_right H b)) (le_of_eq (sym u)));
      start = λ z.
          let c : s / 2 * 2 ≡ s = omega arith in
          q ∙ ap (λ (x : ℕ). x * H * (x * H)) c ∙ w.start (omega arith);
      inside = λ z. lt_of_le_of_lt (le_of_eq q) (more (s % 2) (omega arith) z);
    }
  where
    more : (p : ℕ) → s / 2 * 2 + p ≡ s → 0 < t + p → s / 2 * 2 * 2 ^ k * (s / 2 * 2 * 2 ^ k) < 4 * n
    more zero e h =
        let c : s / 2 * 2 ≡ s = omega arith in
        lt_of_le_of_lt (le_of_eq (ap (λ (x : ℕ). x * 2 ^ k * (x * 2 ^ k)) c)) (w.inside (omega arith))
    more (suc p) e h =
        let c : s / 2 * 2 < s = omega arith in
        lt_of_lt_of_le (sq_lt (mul-lt-mul_of_pos_right c (pow_pos k))) w.least

-- a number below √n is below s
pub reached : (n s k t m : ℕ) → Stretch n s k t → m * 2 ^ k * (m * 2 ^ k) ≤ n → 2 * m ≤ s
reached n s k t m w h =
    let M = m * 2 ^ k in
    let a : 2 * m * 2 ^ k * (2 * m * 2 ^ k) ≡ 4 * (M * M) = ap (λ (x : ℕ). x * x) (mul_assoc 2 m (2 ^ k) ∙ mul_comm 2 M) ∙ sq_even M in
    let b : 2 * m * 2 ^ k < (s + 1) * 2 ^ k = sq_lt_back (2 * m * 2 ^ k) ((s + 1) * 2 ^ k) (lt_of_le_of_lt (omega arith) w.most) in
    let c : 2 * m < s + 1 = lt_of_mul-lt-mul_right (2 ^ k) b in
    omega arith
