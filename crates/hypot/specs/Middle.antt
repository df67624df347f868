-- The midpoints beside q * 2 ^ k, for q the digits s without the last, rounded. Laws only.
-- √(4 * n) lies between the one below and the one above, and on one of them only where q is even.
use Rattle.std.specs.Prelude.{◌≡◌, refl, ◌⊎◌, ℕ, zero, suc, ◌+◌, ◌-◌, ◌*◌, ◌/◌, ◌%◌, ◌^◌, ◌≤◌, ◌<◌, Bool, cond}
use Rattle.std.proofs.Common.{sym, ap, ◌∙◌, subst, inl, inr, le_trans, le_of_eq, le_of_lt, lt_of_lt_of_le, lt_of_le_of_lt, lt_irrefl, mul-le-mul_right, mul-lt-mul_of_pos_right, lt_of_mul-lt-mul_right, le_of_mul-le-mul_right, mul_assoc, mul-one, add-mul, arith, pow_pos}
use Rattle.std.proofs.Math.Dec.{eqb-suc-zero}
use Rattle.root.proofs.Whole.{sq_mono, sq_lt_back}
use Rattle.root.proofs.Middle.{next_above, next_below}
use Rattle.hypot.specs.RoundingParts.{digit}
use Rattle.hypot.specs.Stretch.{Full, sq_lt}
use Rattle.hypot.specs.Rounds.{kept_range}

-- what is known of q
record Kept (s t q : ℕ) : Type 0 where
  low : 2 * q ≤ s + 1
  high : s ≤ 2 * q + 1
  inside : 0 < t → s ≤ 2 * q
  first : s ≡ 2 ^ 53 → 2 * q ≡ s
  up : t ≡ 0 → s ≡ 2 * q + 1 → q % 2 ≡ 0
  down : t ≡ 0 → s + 1 ≡ 2 * q → q % 2 ≡ 0

-- of a tie, the even one
tie_up : (s q b : ℕ) → b ≡ s / 2 % 2 → q ≡ (s + b) / 2 → s ≡ 2 * q + 1 → q % 2 ≡ 0
tie_up s q b d e f =
    let a : s / 2 ≡ q = omega arith in
    let c : b ≡ q % 2 = d ∙ ap (λ (x : ℕ). x % 2) a in
    omega arith

tie_down : (s q b : ℕ) → b ≡ s / 2 % 2 → q ≡ (s + b) / 2 → s + 1 ≡ 2 * q → q % 2 ≡ 0
tie_down s q b d e f =
    let a : s / 2 ≡ q - 1 = omega arith in
    let c : b ≡ (q - 1) % 2 = d ∙ ap (λ (x : ℕ). x % 2) a in
    let g : b ≡ 1 = omega arith in
    let h : (q - 1) % 2 ≡ 1 = sym c ∙ g in
    even q (omega arith) h
  where
    even : (q : ℕ) → 0 < q → (q - 1) % 2 ≡ 1 → q % 2 ≡ 0
    even q h k = omega arith

kept : (s t : ℕ) → Kept s t ((s + digit s t) / 2)
kept s zero = record { low = omega arith; high = omega arith; inside = λ h. omega arith; first = λ h. omega arith; up = λ z e. tie_up s _ (s / 2 % 2) refl refl e; down = λ z e. tie_down s _ (s / 2 % 2) refl refl e }
kept s (suc t) = subst (λ (c : Bool). Kept s (suc t) ((s + cond c (s / 2 % 2) 1) / 2)) (sym (eqb-suc-zero t)) more
  where
    more : Kept s (suc t) ((s + 1) / 2)
    more = record { low = omega arith; high = omega arith; inside = λ h. omega arith; first = λ h. omega arith; up = λ z e. omega arith; down = λ z e. omega arith }

sq_le_back : (a b : ℕ) → a * a ≤ b * b → a ≤ b
sq_le_back a b h = pred a b (sq_lt_back a (b + 1) (lt_of_le_of_lt h (sq_lt (next b))))
  where
    pred : (a b : ℕ) → a < b + 1 → a ≤ b
    pred a b h = omega arith

    next : (b : ℕ) → b < b + 1
    next b = omega arith

abbrev pub Beside : ℕ → ℕ → ℕ → Type 0
Beside n q X = X * X ≡ 4 * n → q % 2 ≡ 0

module _ (n s k t : ℕ) (w : Full n s k t) where
  H_pos : 0 < 2 ^ k
  H_pos = pow_pos k

  over_mid : (q X : ℕ) → Kept s t q → (2 * q + 1) * 2 ^ k ≤ X → (4 * n ≤ X * X) × Beside n q X
  over_mid q X g h = go t refl
    where
      go : (u : ℕ) → t ≡ u → (4 * n ≤ X * X) × Beside n q X
      go zero e =
          let a : s * 2 ^ k * (s * 2 ^ k) ≡ 4 * n = w.stretch.start e in
          let b : s * 2 ^ k ≤ X = le_trans (mul-le-mul_right (2 ^ k) g.high) h in (
            le_trans (le_of_eq (sym a)) (sq_mono b),
            λ f.
                let c : X ≤ s * 2 ^ k = sq_le_back X (s * 2 ^ k) (le_of_eq (f ∙ sym a)) in
                let d : 2 * q + 1 ≤ s = le_of_mul-le-mul_right (le_trans h c) H_pos in
                g.up e (omega (arith, g.high)),
          )
      go (suc u) e =
          let p : 0 < t = omega arith in
          let i : s ≤ 2 * q = g.inside p in
          let a : s + 1 ≤ 2 * q + 1 = omega arith in
          let b : 4 * n < X * X = lt_of_lt_of_le w.stretch.most (sq_mono (le_trans (mul-le-mul_right (2 ^ k) a) h)) in
          (le_of_lt b, λ f. absurd (lt_irrefl (4 * n) (lt_of_lt_of_le b (le_of_eq f))))

  under_mid : (q X a : ℕ) → Kept s t q → a + 1 ≡ 2 * q → X ≤ a * 2 ^ k → (X * X ≤ 4 * n) × Beside n q X
  under_mid q X a g v h =
      let i : a ≤ s = omega (arith, g.low) in
      let b : X ≤ s * 2 ^ k = le_trans h (mul-le-mul_right (2 ^ k) i) in
      (le_trans (sq_mono b) w.stretch.least, go t refl)
    where
      go : (u : ℕ) → t ≡ u → Beside n q X
      go zero e f =
          let c : s * 2 ^ k ≤ X = sq_le_back (s * 2 ^ k) X (le_of_eq (w.stretch.start e ∙ sym f)) in
          let d : s ≤ a = le_of_mul-le-mul_right (le_trans c h) H_pos in
          g.down e (omega (arith, g.low))
      go (suc u) e f =
          let p : 0 < t = omega arith in
          let c : s * 2 ^ k < X = sq_lt_back (s * 2 ^ k) X (lt_of_lt_of_le (w.stretch.inside p) (le_of_eq (sym f))) in
          let d : s < a = lt_of_mul-lt-mul_right (2 ^ k) (lt_of_lt_of_le c h) in
          absurd (omega (arith, g.low))

  -- the neighbour below has the next smaller exponent
  under_half : (q X : ℕ) → Kept s t q → 2 ^ 53 ≤ s → 2 * X ≤ (2 * q + (2 ^ 53 - 1)) * 2 ^ k → (X * X ≤ 4 * n) × Beside n q X
  under_half q X g l h =
      let a : 2 * q + (2 ^ 53 - 1) < 2 * s = strict g.low g.first in
      let b : 2 * X < 2 * s * 2 ^ k = lt_of_le_of_lt h (mul-lt-mul_of_pos_right a H_pos) in
      let c : X < s * 2 ^ k = omega (arith, mul_assoc 2 s (2 ^ k)) in
      let d : X * X < 4 * n = lt_of_lt_of_le (sq_lt c) w.stretch.least in
      (le_of_lt d, λ f. absurd (lt_irrefl (4 * n) (lt_of_le_of_lt (le_of_eq (sym f)) d)))
    where
      strict : 2 * q ≤ s + 1 → (s ≡ 2 ^ 53 → 2 * q ≡ s) → 2 * q + (2 ^ 53 - 1) < 2 * s
      strict a f = go (s - 2 ^ 53) refl
        where
          go : (d : ℕ) → s - 2 ^ 53 ≡ d → 2 * q + (2 ^ 53 - 1) < 2 * s
          go zero e = omega (arith, f (omega arith))
          go (suc d) e = omega arith

-- ---- a number p * 2 ^ l of 53 digits beside q * 2 ^ k

whole_unit : (q k : ℕ) → k ≡ 0 → (q * 2 ^ k ≡ q) × (2 ^ k ≡ 1)
whole_unit q k z = (ap (λ (x : ℕ). q * 2 ^ x) z ∙ mul-one q, ap (λ (x : ℕ). 2 ^ x) z)

module _ (n s k t : ℕ) (w : Full n s k t) (p l : ℕ) (P : p < 2 ^ 53) where
  pub beside_above : (s + digit s t) / 2 * 2 ^ k < p * 2 ^ l → (4 * n ≤ (p * 2 ^ l + (s + digit s t) / 2 * 2 ^ k) * (p * 2 ^ l + (s + digit s t) / 2 * 2 ^ k)) × Beside n ((s + digit s t) / 2) (p * 2 ^ l + (s + digit s t) / 2 * 2 ^ k)
  beside_above h =
      let c = (s + digit s t) / 2 in
      let g : c * 2 ^ k + 2 ^ k ≤ p * 2 ^ l = gap (kept_range k s t w.few w.all).0 in
      over_mid n s k t w c (p * 2 ^ l + c * 2 ^ k) (kept s t) (omega (arith, add-mul (2 * c) 1 (2 ^ k), mul_assoc 2 c (2 ^ k)))
    where
      gap : (k ≡ 0) ⊎ (2 ^ 52 ≤ (s + digit s t) / 2) → (s + digit s t) / 2 * 2 ^ k + 2 ^ k ≤ p * 2 ^ l
      gap (inl z) = omega (arith, whole_unit ((s + digit s t) / 2) k z)
      gap (inr g) = next_above ((s + digit s t) / 2) k p l g P h

  pub beside_below : p * 2 ^ l < (s + digit s t) / 2 * 2 ^ k → ((p * 2 ^ l + (s + digit s t) / 2 * 2 ^ k) * (p * 2 ^ l + (s + digit s t) / 2 * 2 ^ k) ≤ 4 * n) × Beside n ((s + digit s t) / 2) (p * 2 ^ l + (s + digit s t) / 2 * 2 ^ k)
  beside_below h = elim w.all [
    | inl z ↦ one ((s + digit s t) / 2) (kept s t) (omega (arith, whole_unit ((s + digit s t) / 2) k z)) h
    | inr m ↦ elim (next_below ((s + digit s t) / 2) k p l P h) [
      | inl g ↦ one ((s + digit s t) / 2) (kept s t) g h
      | inr g ↦
          let c = (s + digit s t) / 2 in
          under_half n s k t w c (p * 2 ^ l + c * 2 ^ k) (kept s t) m (omega (arith, add-mul (2 * c) (2 ^ 53 - 1) (2 ^ k), mul_assoc 2 c (2 ^ k)))
    ]
  ]
    where
      one : (c : ℕ) → Kept s t c → p * 2 ^ l + 2 ^ k ≤ c * 2 ^ k → p * 2 ^ l < c * 2 ^ k → ((p * 2 ^ l + c * 2 ^ k) * (p * 2 ^ l + c * 2 ^ k) ≤ 4 * n) × Beside n c (p * 2 ^ l + c * 2 ^ k)
      one zero g h i = absurd (omega arith)
      one (suc b) g h i =
          let a = 2 * b + 1 in
          let e : a + 1 ≡ 2 * suc b = omega arith in
          let f : a * 2 ^ k + 1 * 2 ^ k ≡ 2 * (suc b * 2 ^ k) = sym (add-mul a 1 (2 ^ k)) ∙ ap (λ (x : ℕ). x * 2 ^ k) e ∙ mul_assoc 2 (suc b) (2 ^ k) in
          under_mid n s k t w (suc b) (p * 2 ^ l + suc b * 2 ^ k) a g e (omega arith)
