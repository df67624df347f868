-- `root_of_sum n`, which `round` makes of the middle of a short stretch that holds √n, is the double whose pattern `packed` works out from a longer stretch (`rounds`). Laws only.
use Rattle.std.specs.Prelude.{◌≡◌, refl, ◌⊎◌, Bool, not, cond, T, ltb, eqb}
use Rattle.std.proofs.Math.Path.{sym}
use Rattle.std.proofs.Common.{ap, ◌∙◌, subst, le_refl, le_trans, le_of_eq, lt_of_lt_of_le, lt_of_le_of_lt, mul-le-mul_right, mul-pos, mul-one, mul_assoc, mul_left_comm, add-mul, suc-mul, le-div_iff_mul-le, div-lt_iff_lt-mul, eq-or-lt_of_le, add-one, lt-ltb, eqb→eq, nltb→le, ltb→lt, lit≤, T_not, pow-add, pow_pos, pow_mono, shl_lt}
use Rattle.std.proofs.Math.Logic.{inl, inr}
use Prim.Native.Nat.{ℕ, zero, suc, ◌+◌, ◌-◌, ◌*◌, ◌/◌, ◌%◌, ◌^◌, ◌≤◌, ◌<◌, compare, Ordering}
use Rattle.std.proofs.Math.Nat.{mul-lt-mul_of_pos_left, pow-succ'}
use native.Mathlib.Omega.{arith}
use Rattle.std.proofs.Math.Decide.{dec_lt}
use Rattle.std.proofs.Math.Bool.{true, false}
use Rattle.std.proofs.Math.Dec.{eqb-suc-zero}
use Rattle.std.specs.Float.Ieee.{binary64, nearest, size, round, of_bits}
use Rattle.std.specs.Float.Ieee.Bits.{of_bits-fits}
use Rattle.std.specs.Float.Ieee.Fits.{round-fits, eq→eqb}
use Rattle.std.specs.Float.Ieee.Scale.{grid, round_val}
use Rattle.std.specs.Float.Ieee.Digits.{size-le}
use Rattle.std.specs.Float.Ieee.Nearest.{closest, closest_same}
use Rattle.root.specs.Root.{whole}
use Rattle.root.proofs.Whole.{Is, whole_is, sq_lt_back, sq_suc}
use Rattle.root.proofs.Rounds.{Cmp, cmp, nearest_down, nearest_up, closest_of, drop_is, scaled_le, scaled_lt}
use Rattle.root.proofs.Worked.{root_val, pattern_counted, units_are, units_inj, counted_of}
use Rattle.root.proofs.Fields as fields
use Rattle.root.proofs.Neighbours.{pattern_units}
use Rattle.hypot.specs.Hypot2.{root_of_sum}
use Rattle.hypot.specs.RoundingParts.{digit, bits, packed, rounded}
use Rattle.hypot.specs.Over.{round_over, infinity}
use Rattle.hypot.specs.Stretch.{Stretch, Full, halve}

-- ---- a number in a stretch, rounded to 53 digits

nearest_tie : (t a b : ℕ) → a ≡ b → nearest t (compare a b) ≡ t + t % 2
nearest_tie t a b h = go (compare a b) (cmp a b)
  where
    bad : (x y : ℕ) → x ≡ y → x < y → ⊥
    bad x y h k = omega arith

    go : (o : Ordering) → Cmp o a b → nearest t o ≡ t + t % 2
    go Ordering.lt k = absurd (bad a b h k)
    go Ordering.eq k = refl
    go Ordering.gt k = absurd (bad b a (sym h) k)

by_halves : (s H : ℕ) → (s / 2 * (4 * H) ≡ 4 * (s / 2 * H)) × (s * H ≡ 2 * (s / 2 * H) + s % 2 * H)
by_halves s H =
    let e : s ≡ 2 * (s / 2) + s % 2 = omega arith in
    (mul_left_comm (s / 2) 4 H, ap (λ (x : ℕ). x * H) e ∙ add-mul (2 * (s / 2)) (s % 2) H ∙ ap (λ (x : ℕ). x + s % 2 * H) (mul_assoc 2 (s / 2) H))

closest_at : (s H w r t : ℕ) → w ≡ s / 2 * (4 * H) + r → r < 4 * H → nearest (s / 2) (compare (r * 2) (4 * H)) ≡ t → closest w (4 * H) ≡ t
closest_at s H w r t e h f = ap (λ (x : ℕ). closest x (4 * H)) e ∙ closest_of (s / 2) r (4 * H) h ∙ f

-- at the start of the stretch
pub closest_start : (s H : ℕ) → 0 < H → closest (2 * (s * H)) (4 * H) ≡ (s + s / 2 % 2) / 2
closest_start s H P = go (s % 2) refl
  where
    go : (p : ℕ) → s % 2 ≡ p → closest (2 * (s * H)) (4 * H) ≡ (s + s / 2 % 2) / 2
    go zero e =
        let f : s % 2 * H ≡ 0 * H = ap (λ (x : ℕ). x * H) e in
        closest_at s H (2 * (s * H)) 0 _ (omega (arith, by_halves s H)) (omega arith) (nearest_down (s / 2) 0 (4 * H) (omega arith) ∙ omega arith)
    go (suc p) e =
        let g : s % 2 ≡ 1 = omega arith in
        let f : s % 2 * H ≡ 1 * H = ap (λ (x : ℕ). x * H) g in
        closest_at s H (2 * (s * H)) (2 * H) _ (omega (arith, by_halves s H)) (omega arith) (nearest_tie (s / 2) (2 * H * 2) (4 * H) (omega arith) ∙ omega arith)

-- inside it
pub closest_inside : (s H z : ℕ) → 0 < z → z < 2 * H → closest (2 * (s * H) + z) (4 * H) ≡ (s + 1) / 2
closest_inside s H z P l = go (s % 2) refl
  where
    go : (p : ℕ) → s % 2 ≡ p → closest (2 * (s * H) + z) (4 * H) ≡ (s + 1) / 2
    go zero e =
        let f : s % 2 * H ≡ 0 * H = ap (λ (x : ℕ). x * H) e in
        closest_at s H (2 * (s * H) + z) z _ (omega (arith, by_halves s H)) (omega arith) (nearest_down (s / 2) (z * 2) (4 * H) (omega arith) ∙ omega arith)
    go (suc p) e =
        let g : s % 2 ≡ 1 = omega arith in
        let f : s % 2 * H ≡ 1 * H = ap (λ (x : ℕ). x * H) g in
        closest_at s H (2 * (s * H) + z) (2 * H + z) _ (omega (arith, by_halves s H)) (omega arith) (nearest_up (s / 2) ((2 * H + z) * 2) (4 * H) (omega arith) ∙ omega arith)

closest_is : (s H z t : ℕ) → 0 < H → (t ≡ 0 → z ≡ 0) → (0 < t → 0 < z) → z < 2 * H → closest (2 * (s * H) + z) (4 * H) ≡ (s + digit s t) / 2
closest_is s H z zero P a b l =
    let e : 2 * (s * H) + z ≡ 2 * (s * H) = omega (arith, a refl) in
    ap (λ (x : ℕ). closest x (4 * H)) e ∙ closest_start s H P
closest_is s H z (suc t) P a b l = closest_inside s H z (b (omega arith)) l ∙ sym (ap (λ (c : Bool). (s + cond c (s / 2 % 2) 1) / 2) (eqb-suc-zero t))

-- how many digits `round` drops
module _ (s k w : ℕ) (all : (k ≡ 0) ⊎ (2 ^ 53 ≤ s)) (few : s < 2 ^ 54) (lo : 2 * (s * 2 ^ k) ≤ w) (hi : w < 2 * (s * 2 ^ k) + 2 * 2 ^ k) where
  under : w * 2 ^ 1074 / 2 ^ 1076 < 2 ^ 53 * 2 ^ k
  under =
      let H = 2 ^ k in
      let u : suc s * H ≤ 2 ^ 54 * H = mul-le-mul_right H few in
      let f : w < 2 ^ 53 * H * 4 = omega (arith, u, suc-mul s H) in
      (div-lt_iff_lt-mul (pow_pos 1076)).1 (scaled_lt (2 ^ 53 * H) w (2 ^ 1074) (pow_pos 1074) f)

  drops : size (w * 2 ^ 1074 / 2 ^ 1076) - 53 ≡ k
  drops = elim all [
    | inl z ↦
        let a : size (w * 2 ^ 1074 / 2 ^ 1076) ≤ 53 + k = size-le (w * 2 ^ 1074 / 2 ^ 1076) (53 + k) (lt_of_lt_of_le under (le_of_eq (sym (pow-add 2 53 k)))) in
        omega arith
    | inr h ↦
        let H = 2 ^ k in
        let l : 2 ^ 53 * H ≤ s * H = mul-le-mul_right H h in
        let c : 2 ^ 52 * H * 4 ≤ w = omega (arith, l) in
        drop_is k (w * 2 ^ 1074 / 2 ^ 1076) ((le-div_iff_mul-le (pow_pos 1076)).1 (scaled_le (2 ^ 52 * H) w (2 ^ 1074) c)) under
  ]

  grid_is : grid binary64 w (2 ^ 1076) ≡ closest w (4 * 2 ^ k) * 2 ^ k
  grid_is =
      let n = w * 2 ^ 1074 in
      let H = 2 ^ k in
      let e : n * (4 * H) ≡ w * (2 ^ 1076 * H) = mul_assoc w (2 ^ 1074) (4 * H) ∙ ap (λ (x : ℕ). w * x) (sym (mul_assoc (2 ^ 1074) 4 H)) in
      ap (λ (j : ℕ). closest n (2 ^ 1076 * 2 ^ j) * 2 ^ j) drops
      ∙ ap (λ (x : ℕ). x * H) (closest_same n (2 ^ 1076 * H) w (4 * H) (mul-pos (pow_pos 1076) (pow_pos k)) (mul-pos (pow_pos 2) (pow_pos k)) e)

-- ---- the pattern k * 2 ^ 52 + q

pub double : (k : ℕ) → 2 ^ 52 * 2 ^ (k + 1) ≡ 2 ^ 53 * 2 ^ k
double k = ap (λ (x : ℕ). 2 ^ 52 * 2 ^ x) (add-one k) ∙ ap (λ (x : ℕ). 2 ^ 52 * x) (pow-succ' 2 k) ∙ sym (mul_assoc (2 ^ 52) 2 (2 ^ k))

module _ (k q : ℕ) (all : (k ≡ 0) ⊎ (2 ^ 52 ≤ q)) (few : q ≤ 2 ^ 53) where
  pub val_is : fields.val (k * 2 ^ 52 + q) ≡ q * 2 ^ k
  val_is = elim (eq-or-lt_of_le few) [
    | inl e ↦
        let a : k * 2 ^ 52 + q ≡ (k + 1) * 2 ^ 52 + 2 ^ 52 = omega arith in
        ap fields.val a ∙ root_val (k + 1) (2 ^ 52) (le_refl (2 ^ 52)) (omega arith) ∙ double k ∙ ap (λ (x : ℕ). x * 2 ^ k) (sym e)
    | inr l ↦ go (dec_lt q (2 ^ 52)) l
  ]
    where
      low : (b : ℕ) → b < 2 ^ 52 → fields.val b ≡ b
      low b h = ap (λ (t : Bool). cond t b ((2 ^ 52 + b % 2 ^ 52) * 2 ^ (b / 2 ^ 52 - 1))) (lt-ltb b (2 ^ 52) h)

      go : Dec (q < 2 ^ 52) → q < 2 ^ 53 → fields.val (k * 2 ^ 52 + q) ≡ q * 2 ^ k
      go (no h) l = root_val k q (ge q h) l
        where
          ge : (q : ℕ) → (q < 2 ^ 52 → ⊥) → 2 ^ 52 ≤ q
          ge q h = omega arith
      go (yes h) l = elim all [
        | inl z ↦
            let a : k * 2 ^ 52 + q ≡ q = omega arith in
            ap fields.val a ∙ low q h ∙ sym (ap (λ (x : ℕ). q * 2 ^ x) z ∙ mul-one q)
        | inr g ↦ absurd (clash q h g)
      ]
        where
          clash : (q : ℕ) → q < 2 ^ 52 → 2 ^ 52 ≤ q → ⊥
          clash q h g = omega arith

  pub finite : k * 2 ^ 52 + q < 0x7ff0_0000_0000_0000 → q * 2 ^ k < 2 ^ 2098
  finite h = elim (eq-or-lt_of_le few) [
    | inl e ↦
        let a : 54 + k ≤ 2098 = omega arith in
        lt_of_lt_of_le (shl_lt {a = q} 54 k (omega arith)) (pow_mono a)
    | inr l ↦ lt_of_lt_of_le (shl_lt {a = q} 53 k l) (pow_mono (room all))
  ]
    where
      room : (k ≡ 0) ⊎ (2 ^ 52 ≤ q) → 53 + k ≤ 2098
      room (inl z) = omega arith
      room (inr g) = omega arith

  pub infinite : 0x7ff0_0000_0000_0000 ≤ k * 2 ^ 52 + q → 2 ^ 2098 ≤ q * 2 ^ k
  infinite h = elim (eq-or-lt_of_le few) [
    | inl e ↦
        let a : 2098 ≤ 53 + k = omega arith in
        le_trans (pow_mono a) (le_trans (le_of_eq (pow-add 2 53 k)) (mul-le-mul_right (2 ^ k) (le_of_eq (sym e))))
    | inr l ↦
        let a : 2098 ≤ 52 + k = omega arith in
        le_trans (pow_mono a) (le_trans (le_of_eq (pow-add 2 52 k)) (mul-le-mul_right (2 ^ k) (room all)))
  ]
    where
      room : (k ≡ 0) ⊎ (2 ^ 52 ≤ q) → 2 ^ 52 ≤ q
      room (inl z) = omega arith
      room (inr g) = g

-- ---- the digit that rounds

pub kept_range : (k s t : ℕ) → s < 2 ^ 54 → (k ≡ 0) ⊎ (2 ^ 53 ≤ s) → ((k ≡ 0) ⊎ (2 ^ 52 ≤ (s + digit s t) / 2)) × ((s + digit s t) / 2 ≤ 2 ^ 53)
kept_range k s t few all = (least all, omega (arith, digit_le (eqb t 0)))
  where
    digit_le : (b : Bool) → cond b (s / 2 % 2) 1 ≤ 1
    digit_le true = omega arith
    digit_le false = omega arith

    least : (k ≡ 0) ⊎ (2 ^ 53 ≤ s) → (k ≡ 0) ⊎ (2 ^ 52 ≤ (s + digit s t) / 2)
    least (inl z) = inl z
    least (inr h) = inr (omega arith)

-- ---- the theorem

-- the last digit of what `root_of_sum` rounds says whether the whole root is the root
pub more : ℕ → ℕ → ℕ
more a b = cond (eqb a b) 0 1

more_is : (a b : ℕ) → (a ≡ b → more a b ≡ 0) × (a < b → more a b ≡ 1) × (more a b ≤ 1)
unfolding more
more_is a b = go (eqb a b) (eqb→eq a b) (λ (n : T (not (eqb a b))) (e : a ≡ b). T_not (eqb a b) n (eq→eqb e))
  where
    differ : (a b : ℕ) → a ≡ b → a < b → ⊥
    differ a b e h = omega arith

    go : (c : Bool) → (T c → a ≡ b) → (T (not c) → a ≡ b → ⊥) → (a ≡ b → ◌≡◌ {A = ℕ} (cond c 0 1) 0) × (a < b → ◌≡◌ {A = ℕ} (cond c 0 1) 1) × (cond c 0 1 ≤ 1)
    go true h k = (λ e. refl, λ l. absurd (differ a b (h tt) l), omega arith)
    go false h k = (λ e. absurd (k tt e), λ l. refl, omega arith)

pub root_of_sum_is : (n : ℕ) → root_of_sum n ≡ round binary64 false (2 * whole 2100 (4 * n) + more (whole 2100 (4 * n) * whole 2100 (4 * n)) (4 * n)) (2 ^ 1076)
unfolding root_of_sum more
root_of_sum_is n = refl

module _ (n s k t : ℕ) (w : Full n s k t) (S : ℕ) (is : Is (4 * n) S) where
  from : s * 2 ^ k ≤ S
  from = pred (s * 2 ^ k) S (sq_lt_back (s * 2 ^ k) (S + 1) (lt_of_le_of_lt w.stretch.least is.1))
    where
      pred : (a S : ℕ) → a < S + 1 → a ≤ S
      pred a S h = omega arith

  upto : S < s * 2 ^ k + 2 ^ k
  upto = omega (arith, add-mul s 1 (2 ^ k), sq_lt_back S ((s + 1) * 2 ^ k) (lt_of_le_of_lt is.0 w.stretch.most))

  z : ℕ
  z = 2 * (S - s * 2 ^ k) + more (S * S) (4 * n)

  z_is : 2 * S + more (S * S) (4 * n) ≡ 2 * (s * 2 ^ k) + z
  unfolding z
  z_is = omega (arith, from)

  z_lt : z < 2 * 2 ^ k
  unfolding z
  z_lt = omega (arith, upto, from, (more_is (S * S) (4 * n)).2)

  z_start : t ≡ 0 → z ≡ 0
  unfolding z
  z_start e =
      let a : s * 2 ^ k * (s * 2 ^ k) ≡ 4 * n = w.stretch.start e in
      let b : S < s * 2 ^ k + 1 = sq_lt_back S (s * 2 ^ k + 1) (omega (arith, is.0, a, sq_suc (s * 2 ^ k))) in
      let c : s * 2 ^ k ≡ S = omega (arith, from) in
      omega (arith, (more_is (S * S) (4 * n)).0 (ap (λ (x : ℕ). x * x) (sym c) ∙ a))

  z_inside : 0 < t → 0 < z
  unfolding z
  z_inside h = elim (eq-or-lt_of_le is.0) [
    | inl e ↦
        let a : s * 2 ^ k < S = sq_lt_back (s * 2 ^ k) S (lt_of_lt_of_le (w.stretch.inside h) (le_of_eq (sym e))) in
        omega arith
    | inr l ↦ omega (arith, (more_is (S * S) (4 * n)).1 l)
  ]

  grid_of : grid binary64 (2 * S + more (S * S) (4 * n)) (2 ^ 1076) ≡ (s + digit s t) / 2 * 2 ^ k
  grid_of =
      let v = 2 * S + more (S * S) (4 * n) in
      grid_is s k v w.all w.few (omega (arith, z_is)) (omega (arith, z_is, z_lt))
      ∙ ap (λ (x : ℕ). closest x (4 * 2 ^ k) * 2 ^ k) z_is
      ∙ ap (λ (x : ℕ). x * 2 ^ k) (closest_is s (2 ^ k) z t (pow_pos k) z_start z_inside z_lt)

  rounds_to : of_bits binary64 (packed k s t) ≡ round binary64 false (2 * S + more (S * S) (4 * n)) (2 ^ 1076)
  unfolding packed
  rounds_to = go (ltb (bits k s t) 0x7ff0_0000_0000_0000) (ltb→lt (bits k s t) 0x7ff0_0000_0000_0000) (nltb→le (bits k s t) 0x7ff0_0000_0000_0000)
    where
      go : (b : Bool) → (T b → bits k s t < 0x7ff0_0000_0000_0000) → (T (not b) → 0x7ff0_0000_0000_0000 ≤ bits k s t) → of_bits binary64 (cond b (bits k s t) 0x7ff0_0000_0000_0000) ≡ round binary64 false (2 * S + more (S * S) (4 * n)) (2 ^ 1076)
      go true h g =
          let r = kept_range k s t w.few w.all in
          let f : (s + digit s t) / 2 * 2 ^ k < 2 ^ 2098 = finite k ((s + digit s t) / 2) r.0 r.1 (h tt) in
          let a = 2 * S + more (S * S) (4 * n) in
          let vv = round_val binary64 a (2 ^ 1076) (subst (λ (y : ℕ). y < 2 ^ 2098) (sym grid_of) f) in
          units_inj (of_bits binary64 (bits k s t)) (round binary64 false a (2 ^ 1076)) (of_bits-fits binary64 (bits k s t)) (pattern_counted (bits k s t) (h tt)) (round-fits binary64 false a (2 ^ 1076)) (counted_of (round binary64 false a (2 ^ 1076)) (grid binary64 a (2 ^ 1076)) (2 ^ 1074) vv)
          (pattern_units (bits k s t) (h tt) ∙ val_is k ((s + digit s t) / 2) r.0 r.1 ∙ sym (units_are (round binary64 false a (2 ^ 1076)) false (grid binary64 a (2 ^ 1076)) vv ∙ grid_of))
      go false h g =
          let r = kept_range k s t w.few w.all in
          infinity ∙ sym (round_over (2 * S + more (S * S) (4 * n)) (2 ^ 1076) (le_trans (infinite k ((s + digit s t) / 2) r.0 r.1 (g tt)) (le_of_eq (sym grid_of))))

pub rounds : (n s k t : ℕ) → 4 * n < 4 ^ 2100 → Full n s k t → of_bits binary64 (packed k s t) ≡ root_of_sum n
rounds n s k t l w = rounds_to n s k t w (whole 2100 (4 * n)) (whole_is 2100 (4 * n) l) ∙ sym (root_of_sum_is n)

-- with 55 digits
pub rounds_more : (n s k t : ℕ) → 4 * n < 4 ^ 2100 → Stretch n s k t → s < 2 ^ 55 → (k ≡ 0) ⊎ (2 ^ 53 ≤ s) → of_bits binary64 (rounded k s t) ≡ root_of_sum n
unfolding rounded
rounds_more n s k t l w few all = go (ltb s (2 ^ 54)) (ltb→lt s (2 ^ 54)) (nltb→le s (2 ^ 54))
  where
    go : (b : Bool) → (T b → s < 2 ^ 54) → (T (not b) → 2 ^ 54 ≤ s) → of_bits binary64 (cond b (packed k s t) (packed (k + 1) (s / 2) (t + s % 2))) ≡ root_of_sum n
    go true h g = rounds n s k t l (record { stretch = w; few = h tt; all = all })
    go false h g =
        let a = g tt in
        rounds n (s / 2) (k + 1) (t + s % 2) l (record { stretch = halve n s k t w; few = omega arith; all = inr (omega arith) })

-- the squares of two doubles are in reach
pub in_reach : (u v : ℕ) → u < 2 ^ 2098 → v < 2 ^ 2098 → 4 * (u * u + v * v) < 4 ^ 2100
in_reach u v a b = lt_of_lt_of_le (eight (u * u) (v * v) (2 ^ 2098 * 2 ^ 2098) (square u a) (square v b)) (lit≤ tt)
  where
    eight : (a b K : ℕ) → a < K → b < K → 4 * (a + b) < 8 * K
    eight a b K h k = omega arith

    square : (u : ℕ) → u < 2 ^ 2098 → u * u < 2 ^ 2098 * 2 ^ 2098
    square u a = lt_of_le_of_lt (mul-le-mul_right u (below a)) (mul-lt-mul_of_pos_left a (pow_pos 2098))
      where
        below : {x y : ℕ} → x < y → x ≤ y
        below h = omega arith
