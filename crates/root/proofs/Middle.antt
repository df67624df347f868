-- The arithmetic of the midpoints. For D = n * 2 ^ 54, its whole root s, q = (s + 1) / 2 and a power H = 2 ^ h: q * H is nearer to the root of D * H * H / 4 than any other
-- number p * 2 ^ k with p below 2 ^ 53.
use Rattle.std.proofs.Common.{◌≡◌, ℕ, suc, ◌+◌, ◌-◌, ◌*◌, ◌/◌, ◌^◌, ◌<◌, ◌≤◌, ◌⊎◌, sym, ap, ◌∙◌, subst, inl, inr, le_trans, le_of_eq, lt_of_lt_of_le, lt_of_le_of_lt, mul-le-mul_right, mul_assoc, suc-mul, mul_comm, add-mul, lt_of_mul-lt-mul_right, eq-or-lt_of_le, mul-le-mul_left, mul-lt-mul_of_pos_right, mul-pos, lt_of_not-le, mul_left_comm, arith, pow_pos, pow_mono, pow-add}
use native.Mathlib.Decide.{dec_le}
use Rattle.root.proofs.Whole.{Is, sq_mono, sq_lt_back, sq_even, sq_suc, sq_mul}

-- ---- the digits of the result

module _ (n s : ℕ) (lo : 2 ^ 52 ≤ n) (hi : n ≤ 2 ^ 54 - 2) (is : Is (n * 2 ^ 54) s) where
  pub s_ge : 2 ^ 53 ≤ s
  s_ge =
      let u : 2 ^ 53 * 2 ^ 53 < (s + 1) * (s + 1) = omega (arith, is.1) in
      let v : 2 ^ 53 < s + 1 = sq_lt_back (2 ^ 53) (s + 1) u in
      omega arith

  s_lt : s < 2 ^ 54 - 1
  s_lt =
      let u : s * s < (2 ^ 54 - 1) * (2 ^ 54 - 1) = omega (arith, is.0) in
      sq_lt_back s (2 ^ 54 - 1) u

  pub q_ge : 2 ^ 52 ≤ (s + 1) / 2
  q_ge = omega (arith, s_ge)

  pub q_lt : (s + 1) / 2 < 2 ^ 53
  q_lt = omega (arith, s_lt)

  -- the midpoint above
  pub over : n * 2 ^ 54 < (2 * ((s + 1) / 2) + 1) * (2 * ((s + 1) / 2) + 1)
  over =
      let u : s + 1 ≤ 2 * ((s + 1) / 2) + 1 = omega arith in
      lt_of_lt_of_le is.1 (sq_mono u)

  -- the midpoint below, where the neighbour below is one unit away
  pub under : (2 * ((s + 1) / 2) - 1) * (2 * ((s + 1) / 2) - 1) < n * 2 ^ 54
  under =
      let q = (s + 1) / 2 in
      let a = (q - 1) * 2 in
      let e : 2 * q - 1 ≡ a + 1 = omega (arith, q_ge) in
      let u : 2 * q - 1 ≤ s = omega arith in
      let v : (a + 1) * (a + 1) ≤ n * 2 ^ 54 = le_trans (sq_mono (le_trans (le_of_eq (sym e)) u)) is.0 in
      subst (λ (x : ℕ). x * x < n * 2 ^ 54) (sym e) (omega (arith, v, sq_suc a, sq_even (q - 1)))

  -- the midpoint below, where the neighbour below has the next smaller exponent
  pub under_wide : (2 * ((s + 1) / 2) + (2 ^ 53 - 1)) * (2 * ((s + 1) / 2) + (2 ^ 53 - 1)) < 4 * (n * 2 ^ 54)
  under_wide = elim (eq-or-lt_of_le q_ge) [
    | inl e ↦ subst (λ (x : ℕ). (2 * x + (2 ^ 53 - 1)) * (2 * x + (2 ^ 53 - 1)) < 4 * (n * 2 ^ 54)) e (omega arith)
    | inr l ↦
        let q = (s + 1) / 2 in
        let u : 2 * q + (2 ^ 53 - 1) ≤ (2 * q - 1) * 2 = omega (arith, l) in
        lt_of_le_of_lt (sq_mono u) (omega (arith, sq_even (2 * q - 1), under))
  ]

sq_pos : (H : ℕ) → 0 < H → 0 < H * H
sq_pos H h = mul-pos h h

-- ---- a number of 53 digits beside q * 2 ^ h

shift : (p h k : ℕ) → h ≤ k → p * 2 ^ k ≡ p * 2 ^ (k - h) * 2 ^ h
shift p h k l = ap (λ (x : ℕ). p * x) (ap (λ (x : ℕ). 2 ^ x) (sym (join k h l)) ∙ pow-add 2 (k - h) h) ∙ sym (mul_assoc p (2 ^ (k - h)) (2 ^ h))
  where
    join : (k h : ℕ) → h ≤ k → k - h + h ≡ k
    join k h l = omega arith

-- with a smaller exponent it is at most 2 ^ 53 - 1 halves of 2 ^ h
halves : (p h k : ℕ) → p < 2 ^ 53 → k < h → 2 * (p * 2 ^ k) ≤ (2 ^ 53 - 1) * 2 ^ h
halves p h k l g =
    let a : p ≤ 2 ^ 53 - 1 = omega arith in
    let b : 2 * (p * 2 ^ k) ≡ p * 2 ^ (suc k) = mul_left_comm 2 p (2 ^ k) ∙ ap (λ (x : ℕ). p * x) (sym (pow-add 2 1 k) ∙ ap (λ (x : ℕ). 2 ^ x) (one k)) in
    le_trans (le_of_eq b) (le_trans (mul-le-mul_left p (pow_mono g)) (mul-le-mul_right (2 ^ h) a))
  where
    one : (k : ℕ) → 1 + k ≡ suc k
    one k = omega arith

pub next_above : (q h p k : ℕ) → 2 ^ 52 ≤ q → p < 2 ^ 53 → q * 2 ^ h < p * 2 ^ k → q * 2 ^ h + 2 ^ h ≤ p * 2 ^ k
next_above q h p k Q P l = go (dec_le h k)
  where
    far : (a y x : ℕ) → 2 ^ 52 * x ≤ a → 2 * y ≤ (2 ^ 53 - 1) * x → a < y → ⊥
    far a y x e f g = omega arith

    go : Dec (h ≤ k) → q * 2 ^ h + 2 ^ h ≤ p * 2 ^ k
    go (yes g) =
        let e = shift p h k g in
        let u : q < p * 2 ^ (k - h) = lt_of_mul-lt-mul_right (2 ^ h) (subst (λ (x : ℕ). q * 2 ^ h < x) e l) in
        let v : suc q * 2 ^ h ≤ p * 2 ^ (k - h) * 2 ^ h = mul-le-mul_right (2 ^ h) u in
        omega (arith, e, v, suc-mul q (2 ^ h))
    go (no f) = absurd (far (q * 2 ^ h) (p * 2 ^ k) (2 ^ h) (mul-le-mul_right (2 ^ h) Q) (halves p h k P (lt_of_not-le f)) l)

pub next_below : (q h p k : ℕ) → p < 2 ^ 53 → p * 2 ^ k < q * 2 ^ h → (p * 2 ^ k + 2 ^ h ≤ q * 2 ^ h) ⊎ (2 * (p * 2 ^ k) ≤ (2 ^ 53 - 1) * 2 ^ h)
next_below q h p k P l = go (dec_le h k)
  where
    go : Dec (h ≤ k) → (p * 2 ^ k + 2 ^ h ≤ q * 2 ^ h) ⊎ (2 * (p * 2 ^ k) ≤ (2 ^ 53 - 1) * 2 ^ h)
    go (yes g) =
        let e = shift p h k g in
        let u : p * 2 ^ (k - h) < q = lt_of_mul-lt-mul_right (2 ^ h) (subst (λ (x : ℕ). x < q * 2 ^ h) e l) in
        let v : suc (p * 2 ^ (k - h)) * 2 ^ h ≤ q * 2 ^ h = mul-le-mul_right (2 ^ h) u in
        inl (omega (arith, e, v, suc-mul (p * 2 ^ (k - h)) (2 ^ h)))
    go (no f) = inr (halves p h k P (lt_of_not-le f))

-- ---- the two midpoints, for any y beside r = q * H

above_mid : (D q H y : ℕ) → 0 < H → D < (2 * q + 1) * (2 * q + 1) → q * H + H ≤ y → D * (H * H) < (y + q * H) * (y + q * H)
above_mid D q H y P o l =
    let w = 2 * q + 1 in
    let u : w * H ≤ y + q * H = omega (arith, l, add-mul (2 * q) 1 H, mul_assoc 2 q H) in
    lt_of_lt_of_le (mul-lt-mul_of_pos_right o (sq_pos H P)) (le_trans (le_of_eq (sym (sq_mul w H))) (sq_mono u))

below_mid : (D w H z : ℕ) → 0 < H → w * w < 4 * D → 2 * z ≤ w * H → z * z < D * (H * H)
below_mid D w H z P o l =
    let a : w * H * (w * H) < 4 * D * (H * H) = lt_of_le_of_lt (le_of_eq (sq_mul w H)) (mul-lt-mul_of_pos_right o (sq_pos H P)) in
    let b : z * 2 * (z * 2) ≤ w * H * (w * H) = sq_mono (le_trans (le_of_eq (mul_comm z 2)) l) in
    omega (arith, a, b, sq_even z, mul_assoc 4 D (H * H))

one_less : (q H y : ℕ) → 0 < q → y + H ≤ q * H → 2 * (y + q * H) ≤ (2 * q - 1) * 2 * H
one_less q H y Q l =
    let a = 2 * q - 1 in
    let e : a + 1 ≡ 2 * q = omega arith in
    let f : a * H + 1 * H ≡ 2 * (q * H) = sym (add-mul a 1 H) ∙ ap (λ (x : ℕ). x * H) e ∙ mul_assoc 2 q H in
    let g : a * 2 * H ≡ 2 * (a * H) = ap (λ (x : ℕ). x * H) (mul_comm a 2) ∙ mul_assoc 2 a H in
    omega (arith, f, g)

half_less : (q H y : ℕ) → 2 * y ≤ (2 ^ 53 - 1) * H → 2 * (y + q * H) ≤ (2 * q + (2 ^ 53 - 1)) * H
half_less q H y l = omega (arith, add-mul (2 * q) (2 ^ 53 - 1) H, mul_assoc 2 q H)

module _ (n s h : ℕ) (lo : 2 ^ 52 ≤ n) (hi : n ≤ 2 ^ 54 - 2) (is : Is (n * 2 ^ 54) s) where
  pub beside_above : (p k : ℕ) → p < 2 ^ 53 → (s + 1) / 2 * 2 ^ h < p * 2 ^ k → n * 2 ^ 54 * (2 ^ h * 2 ^ h) < (p * 2 ^ k + (s + 1) / 2 * 2 ^ h) * (p * 2 ^ k + (s + 1) / 2 * 2 ^ h)
  beside_above p k P l = above_mid (n * 2 ^ 54) ((s + 1) / 2) (2 ^ h) (p * 2 ^ k) (pow_pos h) (over n s lo hi is) (next_above ((s + 1) / 2) h p k (q_ge n s lo hi is) P l)

  pub beside_below : (p k : ℕ) → p < 2 ^ 53 → p * 2 ^ k < (s + 1) / 2 * 2 ^ h → (p * 2 ^ k + (s + 1) / 2 * 2 ^ h) * (p * 2 ^ k + (s + 1) / 2 * 2 ^ h) < n * 2 ^ 54 * (2 ^ h * 2 ^ h)
  beside_below p k P l =
      let q = (s + 1) / 2 in
      let Q : 0 < q = lt_of_lt_of_le (pow_pos 52) (q_ge n s lo hi is) in
      elim (next_below q h p k P l) [
        | inl a ↦
            below_mid (n * 2 ^ 54) ((2 * q - 1) * 2) (2 ^ h) (p * 2 ^ k + q * 2 ^ h) (pow_pos h)
            (omega (arith, sq_even (2 * q - 1), under n s lo hi is))
            (one_less q (2 ^ h) (p * 2 ^ k) Q a)
        | inr a ↦
            below_mid (n * 2 ^ 54) (2 * q + (2 ^ 53 - 1)) (2 ^ h) (p * 2 ^ k + q * 2 ^ h) (pow_pos h)
            (under_wide n s lo hi is)
            (half_less q (2 ^ h) (p * 2 ^ k) a)
      ]
