-- The working of `length`, over whole numbers. Laws only.
-- What its parts hand on ends in a stretch that holds the root (`near`), and so does the greater number where the other is far below it (`far_off`).
use Rattle.std.specs.Prelude.{◌≡◌, refl, ◌⊎◌, ℕ, zero, suc, ◌+◌, ◌-◌, ◌*◌, ◌/◌, ◌%◌, ◌^◌, ◌≤◌, ◌<◌, Bool, true, false, cond, T, ltb, eqb}
use Rattle.std.proofs.Common.{sym, ◌∙◌, subst, inl, inr, le_of_lt, lt_of_le_of_lt, mul-le-mul, mul-pos, one-mul, mod-eq_of_lt, le_refl, lt-ltb, ltb→lt, pow-add, pow_pos, pow_mono}
use Rattle.std.proofs.Math.Path.{ap}
use Rattle.std.proofs.Math.Nat.{mul-div_cancel_left}
use native.Mathlib.Omega.{arith}
use Rattle.std.proofs.Math.Pow.{pow-lt}
use Rattle.std.specs.Float.{binary64}
use Rattle.std.specs.Float.Ieee.{of_bits}
use Rattle.root.specs.School.{digits}
use Rattle.root.specs.declared.Found.{Found}
use Rattle.root.proofs.Whole.{sq_lt_back}
use Rattle.root.proofs.School.{stands}
use Rattle.hypot.specs.Hypot2.{root_of_sum}
use Rattle.hypot.specs.RoundingParts.{low, val, bits, packed, rounded}
use Rattle.hypot.specs.Stretch.{Stretch, made, far, reached}
use Rattle.hypot.specs.Rounds.{finite, rounds, rounds_more, in_reach}

-- ---- the parts of a pattern

pub record Parts (a i m : ℕ) : Type 0 where
  pub sum : i * 2 ^ 52 + m ≡ a
  pub few : m < 2 ^ 53
  pub all : (i ≡ 0) ⊎ (2 ^ 52 ≤ m)
  pub last : i ≤ 2045

pub parts : (a i : ℕ) → a < 0x7ff0_0000_0000_0000 → i ≡ low a → Parts a i (a - i * 2 ^ 52)
parts a i h e = record { sum = omega arith; few = omega arith; all = go (a / 2 ^ 52) refl; last = omega arith }
  where
    go : (x : ℕ) → a / 2 ^ 52 ≡ x → (i ≡ 0) ⊎ (2 ^ 52 ≤ a - i * 2 ^ 52)
    go zero f = inl (omega arith)
    go (suc x) f = inr (omega arith)

value : (a i : ℕ) → i ≡ low a → (a - i * 2 ^ 52) * 2 ^ i ≡ val a
value a i e = ap (λ (x : ℕ). (a - x * 2 ^ 52) * 2 ^ x) e

pub under : (a i m : ℕ) → a < 0x7ff0_0000_0000_0000 → Parts a i m → m * 2 ^ i < 2 ^ 2098
under a i m h w = finite i m w.all (le_of_lt w.few) (subst (λ (x : ℕ). x < 0x7ff0_0000_0000_0000) (sym w.sum) h)

-- ---- the power of 2 by which the square is cut

pub power : (d : ℕ) → d < 27 → (1 * 2 ^ (2 * d)) % 2 ^ 64 ≡ 2 ^ d * 2 ^ d
power d h =
    let e : 2 * d ≡ d + d = omega arith in
    let l : 2 * d < 64 = omega arith in
    ap (λ (x : ℕ). x % 2 ^ 64) (one-mul (2 ^ (2 * d))) ∙ mod-eq_of_lt (pow-lt l) ∙ ap (λ (x : ℕ). 2 ^ x) e ∙ pow-add 2 d d

pub power_le : (d : ℕ) → d < 27 → 2 ^ d * 2 ^ d ≤ 2 ^ 52
power_le d h =
    let l : d ≤ 26 = omega arith in
    mul-le-mul (pow_mono l) (pow_mono l)

pub divides : (d p : ℕ) → d < 27 → p ≡ 2 ^ d * 2 ^ d → (0 < p) × (p * (2 ^ 56 / p) ≡ 2 ^ 56)
divides d p h e =
    let P : 0 < p = subst (λ (x : ℕ). 0 < x) (sym e) (mul-pos (pow_pos d) (pow_pos d)) in
    let g : d + d + (56 - (d + d)) ≡ 56 = omega arith in
    let c = 2 ^ (56 - (d + d)) in
    let f : p * c ≡ 2 ^ 56 = ap (λ (x : ℕ). x * c) (e ∙ sym (pow-add 2 d d)) ∙ sym (pow-add 2 (d + d) (56 - (d + d))) ∙ ap (λ (x : ℕ). 2 ^ x) g in
    (P, ap (λ (x : ℕ). p * (x / p)) (sym f) ∙ ap (λ (x : ℕ). p * x) (mul-div_cancel_left c P) ∙ f)

-- ---- the root's digits

-- no digit is left
cut : (x y a n : ℕ) → x * 2 ^ 62 + a ≡ (y * 2 ^ 62 + n * 64) * 4 ^ 28 → a < 2 ^ 62 → x ≡ y * 2 ^ 56 + n
cut x y a n e l = omega arith

-- twenty-eight digits more
pub more : (n : ℕ) (f w : Found) → f.r ≤ f.s * 2 → n < 2 ^ 56 → w ≡ digits 28 (n * 64) f → (w.s * w.s + w.r ≡ (f.s * f.s + f.r) * 2 ^ 56 + n) × (w.r ≤ w.s * 2)
more n f w h l e =
    let y = f.s * f.s + f.r in
    let p = stands (y * 2 ^ 62 + n * 64) (f.s + 1) 28 0 (n * 64) f (record { rest = h; word = omega arith; small = omega arith; sum = omega arith }) in
    rw e (cut _ y p.0 n p.1.sum p.1.word, p.1.rest)

pub first_lt : (n s r : ℕ) → s * s + r ≡ (0 * 0 + 0) * 2 ^ 56 + n → n < 2 ^ 54 → (s + 1) * 2 ^ 28 ≤ 2 ^ 57
first_lt n s r e h = omega (arith, sq_lt_back s (2 ^ 28) (omega arith))

pub root_lt : (n s r : ℕ) → s * s + r ≡ n → n < 2 ^ 110 → s < 2 ^ 55
root_lt n s r e h = sq_lt_back s (2 ^ 55) (omega arith)

pub small : (s r lost p : ℕ) → s < 2 ^ 55 → r ≤ 2 * s → lost < p → p ≤ 2 ^ 52 → r + lost < 2 ^ 63
small s r lost p a b c d = omega arith

-- ---- the result

-- the pattern itself, where the stretch begins at twice its significand
pub itself : (a i n t : ℕ) → a < 0x7ff0_0000_0000_0000 → Parts a i (a - i * 2 ^ 52) → 4 * n < 4 ^ 2100 → Stretch n (2 * (a - i * 2 ^ 52)) i t → of_bits binary64 a ≡ root_of_sum n
unfolding packed
itself a i n t top w reach st =
    let m = a - i * 2 ^ 52 in
    ap (of_bits binary64) (sym (packed_is (eqb t 0) m w.sum))
    ∙ rounds n (2 * m) i t reach (record { stretch = st; few = omega (arith, w.few); all = full w.all })
  where
    full : (i ≡ 0) ⊎ (2 ^ 52 ≤ a - i * 2 ^ 52) → (i ≡ 0) ⊎ (2 ^ 53 ≤ 2 * (a - i * 2 ^ 52))
    full (inl z) = inl z
    full (inr h) = inr (omega arith)

    packed_is : (c : Bool) (m : ℕ) → i * 2 ^ 52 + m ≡ a → cond (ltb (i * 2 ^ 52 + (2 * m + cond c (2 * m / 2 % 2) 1) / 2) 0x7ff0_0000_0000_0000) (i * 2 ^ 52 + (2 * m + cond c (2 * m / 2 % 2) 1) / 2) 0x7ff0_0000_0000_0000 ≡ a
    packed_is c m e =
        let f : i * 2 ^ 52 + (2 * m + cond c (2 * m / 2 % 2) 1) / 2 ≡ a = both c in
        ap (λ (x : ℕ). cond (ltb x 0x7ff0_0000_0000_0000) x 0x7ff0_0000_0000_0000) f
        ∙ ap (λ (t : Bool). cond t a 0x7ff0_0000_0000_0000) (lt-ltb a 0x7ff0_0000_0000_0000 top)
      where
        both : (c : Bool) → i * 2 ^ 52 + (2 * m + cond c (2 * m / 2 % 2) 1) / 2 ≡ a
        both true = omega arith
        both false = omega arith

module _ (a b i j : ℕ) (order : b ≤ a) (top : a < 0x7ff0_0000_0000_0000) (ia : i ≡ low a) (jb : j ≡ low b) where
  pa : Parts a i (a - i * 2 ^ 52)
  pa = parts a i top ia

  pb : Parts b j (b - j * 2 ^ 52)
  pb = parts b j (lt_of_le_of_lt order top) jb

  sum_of : ℕ
  sum_of = (a - i * 2 ^ 52) * 2 ^ i * ((a - i * 2 ^ 52) * 2 ^ i) + (b - j * 2 ^ 52) * 2 ^ j * ((b - j * 2 ^ 52) * 2 ^ j)

  sum_is : sum_of ≡ val a * val a + val b * val b
  unfolding sum_of
  sum_is = ap (λ (x : ℕ). x * x + (b - j * 2 ^ 52) * 2 ^ j * ((b - j * 2 ^ 52) * 2 ^ j)) (value a i ia) ∙ ap (λ (x : ℕ). val a * val a + x * x) (value b j jb)

  reach : 4 * sum_of < 4 ^ 2100
  unfolding sum_of
  reach = in_reach _ _ (under a i (a - i * 2 ^ 52) top pa) (under b j (b - j * 2 ^ 52) (lt_of_le_of_lt order top) pb)

  pub far_off : 27 ≤ i - j → of_bits binary64 a ≡ root_of_sum (val a * val a + val b * val b)
  unfolding sum_of
  far_off gap =
      let m = a - i * 2 ^ 52 in
      let lo : 2 ^ 52 ≤ m = full pa.all in
      itself a i sum_of _ top pa reach (far m (b - j * 2 ^ 52) i j lo pb.few (omega arith)) ∙ ap root_of_sum sum_is
    where
      full : (i ≡ 0) ⊎ (2 ^ 52 ≤ a - i * 2 ^ 52) → 2 ^ 52 ≤ a - i * 2 ^ 52
      full (inl z) = absurd (omega arith)
      full (inr h) = h

  pub near : (n lost p s r : ℕ) → i - j < 27 → j ≤ i → p ≡ 2 ^ (i - j) * 2 ^ (i - j)
      → n * p + lost ≡ 4 * ((a - i * 2 ^ 52) * (a - i * 2 ^ 52) * p + (b - j * 2 ^ 52) * (b - j * 2 ^ 52)) → lost < p → n < 2 ^ 110
      → s * s + r ≡ n → r ≤ 2 * s
      → of_bits binary64 (rounded i s (r + lost)) ≡ root_of_sum (val a * val a + val b * val b)
  unfolding sum_of
  near n lost p s r gap le pd e less top whole rest =
      let m = a - i * 2 ^ 52 in
      let w : Stretch sum_of s i (r + lost) = made m (b - j * 2 ^ 52) i j (i - j) p n lost s r (omega arith) pd e less whole rest in
      rounds_more sum_of s i (r + lost) reach w (root_lt n s r whole top) (full pa.all (reached sum_of s i (r + lost) m w (below _ _)))
      ∙ ap root_of_sum sum_is
    where
      below : (x y : ℕ) → x ≤ x + y
      below x y = omega arith

      full : (i ≡ 0) ⊎ (2 ^ 52 ≤ a - i * 2 ^ 52) → 2 * (a - i * 2 ^ 52) ≤ s → (i ≡ 0) ⊎ (2 ^ 53 ≤ s)
      full (inl z) h = inl z
      full (inr g) h = inr (omega arith)

packed_le : (k s t : ℕ) → packed k s t ≤ 0x7ff0_0000_0000_0000
unfolding packed
packed_le k s t = go (ltb (bits k s t) 0x7ff0_0000_0000_0000) (ltb→lt (bits k s t) 0x7ff0_0000_0000_0000)
  where
    go : (c : Bool) → (T c → bits k s t < 0x7ff0_0000_0000_0000) → cond c (bits k s t) 0x7ff0_0000_0000_0000 ≤ 0x7ff0_0000_0000_0000
    go true h = le_of_lt (h tt)
    go false h = le_refl 0x7ff0_0000_0000_0000

pub rounded_le : (k s t : ℕ) → rounded k s t ≤ 0x7ff0_0000_0000_0000
unfolding rounded
rounded_le k s t = go (ltb s (2 ^ 54))
  where
    go : (c : Bool) → cond c (packed k s t) (packed (k + 1) (s / 2) (t + s % 2)) ≤ 0x7ff0_0000_0000_0000
    go true = packed_le k s t
    go false = packed_le (k + 1) (s / 2) (t + s % 2)
