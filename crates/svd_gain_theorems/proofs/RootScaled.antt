-- The root of a number times 4 ^ k is 2 ^ k times its root, in the normal range. Laws only.
-- `root` rounds the middle of a stretch that holds the root, so this goes by the whole root: its digits past the last that counts don't matter.
use Rattle.std.specs.Prelude.{◌≡◌, refl, Bool, true, false, not, cond, ◌&&◌, ℕ, zero, suc, ◌+◌, ◌-◌, ◌*◌, ◌/◌, ◌%◌, ◌^◌, ◌≤◌, ◌<◌, T, ltb, leb, eqb, ℤ, pos, ◌+ℤ◌, Float}
use Rattle.std.proofs.Common.{sym, ap, ap₂, ◌∙◌, subst, true≢false, one-mul, mul-zero, mul_comm, mul_assoc, mul_left_comm, mul-pos, mul-le-mul_right, mul-lt-mul_of_pos_right, add_comm, lt_of_mul-lt-mul_right, lt_of_lt_of_le, lt_of_le_of_lt, lt_of_not-le, not-le_of_lt, add-zero, add-suc, div-one, le-div_iff_mul-le, div-lt_iff_lt-mul, mul-div_cancel, div-add-mod', pow-suc, div-mul-le_self, mod-lt, arith, ltb→lt, lit≤, pow-add, pow_pos, pow_mono, shr-shr}
use Rattle.std.proofs.Math.Nat.{mul-lt-mul_of_pos_left, lt_of_mul-lt-mul_left, div-div-eq-div-mul}
use Rattle.std.proofs.Math.Dec.{nleb→lt}
use Rattle.std.specs.Float.{nan, inf, fin, binary64}
use Rattle.std.specs.Float.Ieee.{up, down, size, round, fits}
use Rattle.std.specs.Float.Ieee as Ieee
use Rattle.std.specs.Float.Ieee.Digits.{size-lt, size-le, size_reaches}
use Rattle.std.specs.Float.Ieee.Fits.{round_is, up_pos, down_pos, and_r}
use Rattle.std.specs.Float.Ieee.Nearest.{closest, closest_same, div_same}
use Rattle.std.specs.Float.Ieee.Order.{drop, kept}
use Rattle.std.specs.Float.Ieee.Scale.{finite, normal_of_rounded}
use Rattle.root.specs.Root.{next, whole, units, root_of, root}
use Rattle.root.proofs.Rounds.{middle}
use Rattle.svd_gain_theorems.specs.Scale.{scale, is_zero, fine, Scaled}
use Rattle.svd_gain_theorems.specs.ScaleLaws.{moved_val}
use Rattle.svd_gain_theorems.proofs.Round.{size_gt, join, pred_lt, more, fine_finite, units_shift, units_normal, round_some}
use Rattle.svd_gain_theorems.proofs.Ops.{fits_low, units_of}

-- ---- the whole root, one binary digit at a time

next_half : (n s : ℕ) → next n s / 2 ≡ s
next_half n s = go (leb ((s * 2 + 1) * (s * 2 + 1)) n)
  where
    go : (b : Bool) → cond b (s * 2 + 1) (s * 2) / 2 ≡ s
    go true = omega arith
    go false = omega arith

whole_half : (k n : ℕ) → whole (suc k) n / 2 ≡ whole k (n / 4)
unfolding whole
whole_half k n = next_half n (whole k (n / 4))

-- the whole root of n / 4 ^ t is that of n without its last t digits
whole_cut : (j t n : ℕ) → whole (j + t) n / 2 ^ t ≡ whole j (n / 2 ^ (t + t))
whole_cut j zero n = div-one (whole (j + 0) n) ∙ ap₂ whole (add-zero j) (sym (div-one n))
whole_cut j (suc t) n =
    ap (λ (f : ℕ). whole f n / 2 ^ suc t) (add-suc j t)
    ∙ ap (λ (p : ℕ). whole (suc (j + t)) n / p) (pow-suc 2 t ∙ mul_comm (2 ^ t) 2)
    ∙ sym (div-div-eq-div-mul (whole (suc (j + t)) n) 2 (2 ^ t))
    ∙ ap (λ (x : ℕ). x / 2 ^ t) (whole_half (j + t) n)
    ∙ whole_cut j t (n / 4)
    ∙ ap (whole j) (div-div-eq-div-mul n 4 (2 ^ (t + t)) ∙ ap (λ (p : ℕ). n / p) (four t))
  where
    four : (t : ℕ) → 4 * 2 ^ (t + t) ≡ 2 ^ (suc t + suc t)
    four t =
        let i : suc t + suc t ≡ 2 + (t + t) = omega arith in
        sym (ap (λ (x : ℕ). 2 ^ x) i ∙ pow-add 2 2 (t + t))

four_times : (j : ℕ) → 2 ^ (suc j + suc j) ≡ 4 * 2 ^ (j + j)
four_times j =
    let i : suc j + suc j ≡ 2 + (j + j) = omega arith in
    ap (λ (x : ℕ). 2 ^ x) i ∙ pow-add 2 2 (j + j)

quarter : (j n : ℕ) → n < 2 ^ (suc j + suc j) → n / 4 < 2 ^ (j + j)
quarter j n h = omega (arith, four_times j)

whole_more : (j n : ℕ) → n < 2 ^ (j + j) → whole (suc j) n ≡ whole j n
unfolding whole
whole_more zero n h =
    let z : n ≡ 0 = omega arith in
    rw z
whole_more (suc j) n h = ap (next n) (whole_more j (n / 4) (quarter j n h))

whole_fuel : (j t n : ℕ) → n < 2 ^ (j + j) → whole (j + t) n ≡ whole j n
whole_fuel j zero n h = ap (λ (f : ℕ). whole f n) (add-zero j)
whole_fuel j (suc t) n h =
    ap (λ (f : ℕ). whole f n) (add-suc j t)
    ∙ whole_more (j + t) n (lt_of_lt_of_le h (pow_mono (omega arith)))
    ∙ whole_fuel j t n h

whole_pos : (j n : ℕ) → 0 < n → n < 2 ^ (j + j) → 0 < whole j n
unfolding whole
whole_pos zero n p h = absurd (omega arith)
whole_pos (suc j) n p h = go (ltb 0 (n / 4)) (ltb→lt 0 (n / 4)) (whole j (n / 4)) (λ q. whole_pos j (n / 4) q (quarter j n h))
  where
    go : (b : Bool) → (T b → 0 < n / 4) → (s : ℕ) → (0 < n / 4 → 0 < s) → 0 < next n s
    go b l zero q = first (leb 1 n) (nleb→lt 1 n)
      where
        first : (c : Bool) → (T (not c) → n < 1) → 0 < cond c 1 0
        first true g = omega arith
        first false g = absurd (let z : n < 1 = g tt in omega arith)
    go b l (suc s) q = second (leb ((suc s * 2 + 1) * (suc s * 2 + 1)) n)
      where
        second : (c : Bool) → 0 < cond c (suc s * 2 + 1) (suc s * 2)
        second true = omega arith
        second false = omega arith

-- t more digits, with as many times 4 in the number
pub whole_scale : (J t n : ℕ) → 0 < n → n * 2 ^ (t + t) < 2 ^ (J + J) → whole J (n * 2 ^ (t + t)) / 2 ^ t ≡ whole J n
whole_scale J t n p h =
    let one : 2 ^ (t + t) ≤ n * 2 ^ (t + t) = subst (λ (x : ℕ). x ≤ n * 2 ^ (t + t)) (one-mul (2 ^ (t + t))) (mul-le-mul_right (2 ^ (t + t)) p) in
    let l : t + t < J + J = lt_of_not-le (λ (g : J + J ≤ t + t). not-le_of_lt (lt_of_le_of_lt (pow_mono g) (lt_of_le_of_lt one h)) (omega arith)) in
    let j = J - t in
    let e : j + t ≡ J = omega arith in
    let u : (j + j) + (t + t) ≡ J + J = omega arith in
    let k : n * 2 ^ (t + t) < 2 ^ (j + j) * 2 ^ (t + t) = subst (λ (x : ℕ). n * 2 ^ (t + t) < x) (ap (λ (x : ℕ). 2 ^ x) (sym u) ∙ pow-add 2 (j + j) (t + t)) h in
    let small : n < 2 ^ (j + j) = lt_of_mul-lt-mul_right (2 ^ (t + t)) k in
    ap (λ (f : ℕ). whole f (n * 2 ^ (t + t)) / 2 ^ t) (sym e)
    ∙ whole_cut j t (n * 2 ^ (t + t))
    ∙ ap (whole j) (mul-div_cancel n (pow_pos (t + t)))
    ∙ sym (whole_fuel j t n small)
    ∙ ap (λ (f : ℕ). whole f n) e

-- ---- the rounded middle, by the whole root: it turns on the root's leading digits alone

-- how many digits are dropped
abbrev cut : ℕ → ℕ
cut w = size (w / 2) - 53

quarter_half : (w : ℕ) → (2 * w + 1) / 4 ≡ w / 2
quarter_half w = omega arith

pub whole_part : (w K : ℕ) → 0 < K → (2 * w + 1) * K / (4 * K) ≡ w / 2
whole_part w K h =
    div_same ((2 * w + 1) * K) (4 * K) (2 * w + 1) 4 (mul-pos (omega arith) h) (omega arith) (simp (mul_assoc, mul_comm, mul_left_comm)) ∙ quarter_half w

middle_form : (w K : ℕ) → 0 < K → (j : ℕ) → closest ((2 * w + 1) * K) (4 * K * 2 ^ j) ≡ (w / 2 ^ j + 1) / 2
middle_form w K h j =
    let lo : w / 2 ^ j * 2 ^ j ≤ w = div-mul-le_self w (2 ^ j) in
    let hi : w < w / 2 ^ j * 2 ^ j + 2 ^ j = rest w (2 ^ j) (pow_pos j) in
    let c : (2 * w + 1) * K * (4 * 2 ^ j) ≡ (2 * w + 1) * (4 * K * 2 ^ j) = simp (mul_assoc, mul_comm, mul_left_comm) in
    closest_same ((2 * w + 1) * K) (4 * K * 2 ^ j) (2 * w + 1) (4 * 2 ^ j) (mul-pos (mul-pos (omega arith) h) (pow_pos j)) (mul-pos (omega arith) (pow_pos j)) c
    ∙ middle (w / 2 ^ j) (2 ^ j) w lo hi
  where
    rest : (w P : ℕ) → 0 < P → w < w / P * P + P
    rest w P h = subst (λ (x : ℕ). x < w / P * P + P) (div-add-mod' w P) (shift (w / P * P) (w % P) P (mod-lt w h))
      where
        shift : (a r p : ℕ) → r < p → a + r < a + p
        shift a r p h = omega arith

form : (w : ℕ) → round binary64 false (2 * w + 1) (2 ^ 1076) ≡ Ieee.units binary64 false ((w / 2 ^ cut w + 1) / 2) (cut w)
form w =
    round_is binary64 false (2 * w + 1) (2 ^ 1076)
    ∙ ap (λ (x : ℕ). Ieee.units binary64 false (closest ((2 * w + 1) * 2 ^ 1074) (2 ^ 1076 * 2 ^ (size x - 53))) (size x - 53)) (whole_part w (2 ^ 1074) (pow_pos 1074))
    ∙ ap (λ (x : ℕ). Ieee.units binary64 false x (cut w)) (middle_form w (2 ^ 1074) (pow_pos 1074) (cut w))

size_cut : (x t : ℕ) → 0 < size (x / 2 ^ t) → size x ≡ size (x / 2 ^ t) + t
size_cut x t h =
    let z = size (x / 2 ^ t) in
    let lo : 2 ^ (z - 1) * 2 ^ t ≤ x = (le-div_iff_mul-le (pow_pos t)).0 (size_reaches (x / 2 ^ t) (z - 1) (pred_lt z h)) in
    let hi : x < 2 ^ z * 2 ^ t = (div-lt_iff_lt-mul (pow_pos t)).0 (size-lt (x / 2 ^ t)) in
    join z t (size x) h (size-le x (z + t) (subst (λ (y : ℕ). x < y) (sym (pow-add 2 z t)) hi))
    (size_gt x (z - 1 + t) (subst (λ (y : ℕ). y ≤ x) (sym (pow-add 2 (z - 1) t)) lo))

half_cut : (w t : ℕ) → w / 2 / 2 ^ t ≡ w / 2 ^ t / 2
half_cut w t = div-div-eq-div-mul w 2 (2 ^ t) ∙ ap (λ (p : ℕ). w / p) (mul_comm 2 (2 ^ t)) ∙ sym (div-div-eq-div-mul w (2 ^ t) 2)

pub middle_scaled : (w w' t : ℕ) → w' / 2 ^ t ≡ w → 53 ≤ size (w / 2) → T (finite (round binary64 false (2 * w + 1) (2 ^ 1076)))
    → T (finite (round binary64 false (2 * w' + 1) (2 ^ 1076)))
    → round binary64 false (2 * w' + 1) (2 ^ 1076) ≡ scale (pos t) (round binary64 false (2 * w + 1) (2 ^ 1076))
middle_scaled w w' t h N f g =
    let v : w' / 2 / 2 ^ t ≡ w / 2 = half_cut w' t ∙ ap (λ (x : ℕ). x / 2) h in
    let Z : 0 < size (w' / 2 / 2 ^ t) = subst (λ (x : ℕ). 0 < size x) (sym v) (lt_of_lt_of_le (omega arith) N) in
    let c : cut w' ≡ cut w + t = more (size (w / 2)) 53 t (size (w' / 2)) N (size_cut (w' / 2) t Z ∙ ap (λ (x : ℕ). size x + t) v) in
    let q : w' / 2 ^ (cut w + t) ≡ w / 2 ^ cut w =
    ap (λ (x : ℕ). w' / 2 ^ x) (add_comm (cut w) t) ∙ sym (shr-shr w' t (cut w)) ∙ ap (λ (x : ℕ). x / 2 ^ cut w) h in
    let e : round binary64 false (2 * w' + 1) (2 ^ 1076) ≡ Ieee.units binary64 false ((w / 2 ^ cut w + 1) / 2) (cut w + t) =
    form w'
    ∙ ap (λ (x : ℕ). Ieee.units binary64 false ((w' / 2 ^ x + 1) / 2) x) c
    ∙ ap (λ (x : ℕ). Ieee.units binary64 false ((x + 1) / 2) (cut w + t)) q in
    e
    ∙ units_shift false ((w / 2 ^ cut w + 1) / 2) (cut w) t (subst (λ (x : Float). T (finite x)) (form w) f) (subst (λ (x : Float). T (finite x)) e g)
    ∙ ap (scale (pos t)) (sym (form w))

-- ---- the root of a number of u units

four : (u K : ℕ) → 4 * (u * K) / 4 ≡ u * K
four u K = omega arith

pub root_low : (w : ℕ) → 0 < w / 2 → 2 ^ 1076 ≤ (2 * w + 1) * 2 ^ 1074
root_low w h = mul-le-mul_right (2 ^ 1074) (low w h)
  where
    low : (w : ℕ) → 0 < w / 2 → 4 ≤ 2 * w + 1
    low w h = omega arith

pub root_some : (u : ℕ) → 0 < u → 4 * (u * 2 ^ 1074) < 2 ^ 3200 → is_zero (root_of u) ≡ false
unfolding root_of
root_some u p h =
    round_some false (2 * whole 1600 (4 * (u * 2 ^ 1074)) + 1) (2 ^ 1076) (pow_pos 1076)
    (root_low (whole 1600 (4 * (u * 2 ^ 1074)))
    (subst (λ (x : ℕ). 0 < x) (sym (whole_half 1599 (4 * (u * 2 ^ 1074)) ∙ ap (whole 1599) (four u (2 ^ 1074))))
    (whole_pos 1599 (u * 2 ^ 1074) (mul-pos p (pow_pos 1074)) (lt_of_mul-lt-mul_left 4 h))))

root_of_scaled : (t u u' : ℕ) → 0 < u → u' ≡ u * 2 ^ (t + t) → 4 * (u * 2 ^ 1074) < 2 ^ 3200 → 4 * (u' * 2 ^ 1074) < 2 ^ 3200
    → T (fine (root_of u)) → T (fine (root_of u')) → root_of u' ≡ scale (pos t) (root_of u)
unfolding root_of
root_of_scaled t u u' p e h h' f f' =
    let n = 4 * (u * 2 ^ 1074) in
    let w = whole 1600 n in
    let w' = whole 1600 (4 * (u' * 2 ^ 1074)) in
    let m : 4 * (u' * 2 ^ 1074) ≡ n * 2 ^ (t + t) = ap (λ (x : ℕ). 4 * (x * 2 ^ 1074)) e ∙ out 4 u (2 ^ (t + t)) (2 ^ 1074) in
    let q : w' / 2 ^ t ≡ w =
    ap (λ (x : ℕ). whole 1600 x / 2 ^ t) m ∙ whole_scale 1600 t n (mul-pos (omega arith) (mul-pos p (pow_pos 1074))) (subst (λ (x : ℕ). x < 2 ^ 3200) m h') in
    let r = kept 53 ((2 * w + 1) * 2 ^ 1074) (2 ^ 1076) in
    let k = drop 53 ((2 * w + 1) * 2 ^ 1074) (2 ^ 1076) in
    let is : round binary64 false (2 * w + 1) (2 ^ 1076) ≡ Ieee.units binary64 false r k = round_is binary64 false (2 * w + 1) (2 ^ 1076) in
    let N : 53 ≤ size ((2 * w + 1) * 2 ^ 1074 / 2 ^ 1076) =
    normal_of_rounded binary64 (2 * w + 1) (2 ^ 1076)
    (units_normal false r k (subst (λ (x : Float). T (fine x)) is f) (subst (λ (x : Float). is_zero x ≡ false) is (root_some u p h))) in
    middle_scaled w w' t q (subst (λ (x : ℕ). 53 ≤ size x) (whole_part w (2 ^ 1074) (pow_pos 1074)) N) (fine_finite _ f) (fine_finite _ f')
  where
    out : (a u T K : ℕ) → a * (u * T * K) ≡ a * (u * K) * T
    out a u T K = simp (mul_assoc, mul_comm)

-- ---- how many units a double is

units_is : (a e r K : ℕ) → 0 < e → e * r ≡ K → a * K / e ≡ a * r
units_is a e r K h g =
    ap (λ (x : ℕ). a * x / e) (sym g) ∙ ap (λ (x : ℕ). x / e) (swap a e r) ∙ mul-div_cancel (a * r) h
  where
    swap : (a e r : ℕ) → a * (e * r) ≡ a * r * e
    swap a e r = simp (mul_assoc, mul_comm)

pub units_scaled : (a e r K P a' e' : ℕ) → 0 < e → 0 < e' → e * r ≡ K → a' * e ≡ a * P * e' → a' * K / e' ≡ a * K / e * P
units_scaled a e r K P a' e' E E' g h =
    let c : a' * K * e ≡ a * P * K * e' = swap a' K e ∙ ap (λ (x : ℕ). x * K) h ∙ swap (a * P) e' K in
    div_same (a' * K) e' (a * P * K) e E' E c
    ∙ units_is (a * P) e r K E g
    ∙ swap a P r
    ∙ ap (λ (x : ℕ). x * P) (sym (units_is a e r K E g))
  where
    swap : (a b c : ℕ) → a * b * c ≡ a * c * b
    swap a b c = simp (mul_assoc, mul_comm)

pub units_high : (a e K L B : ℕ) → 0 < e → 0 < K → a < L * e → L * K ≤ B → a * K / e < B
units_high a e K L B E k h l =
    (div-lt_iff_lt-mul E).1
    (lt_of_lt_of_le (mul-lt-mul_of_pos_right h k) (subst (λ (x : ℕ). x ≤ B * e) (swap L K e) (mul-le-mul_right e l)))
  where
    swap : (a b c : ℕ) → a * b * c ≡ a * c * b
    swap a b c = simp (mul_assoc, mul_comm)

pub fits_high : (s : Bool) (m : ℕ) (e : ℤ) → T (fits binary64 (fin s (suc m) e)) → suc m * up e < 2 ^ 1024 * down e
unfolding fits
fits_high s m e h =
    ltb→lt (suc m * up e) (2 ^ 1024 * down e) (and_r (eqb (suc m % 2) 1 && ltb (suc m) (2 ^ 53) && leb (down e) (2 ^ 1074)) (ltb (suc m * up e) (2 ^ 1024 * down e)) h)

under : (u : ℕ) → u < 2 ^ 2098 → 4 * (u * 2 ^ 1074) < 2 ^ 3200
under u h =
    let g : u * 2 ^ 1074 < 2 ^ 2098 * 2 ^ 1074 = mul-lt-mul_of_pos_right h (pow_pos 1074) in
    lt_of_lt_of_le (mul-lt-mul_of_pos_left g (omega arith)) (lit≤ tt)

double_under : (s : Bool) (m : ℕ) (e : ℤ) → T (fits binary64 (fin s (suc m) e)) → 4 * (units (fin s (suc m) e) * 2 ^ 1074) < 2 ^ 3200
double_under s m e h =
    under (units (fin s (suc m) e)) (units_high (suc m * up e) (down e) (2 ^ 1074) (2 ^ 1024) (2 ^ 2098) (down_pos e) (pow_pos 1074) (fits_high s m e h) (lit≤ tt))

units_pos : (s : Bool) (m : ℕ) (e : ℤ) → T (fits binary64 (fin s (suc m) e)) → 0 < units (fin s (suc m) e)
units_pos s m e h =
    let r = units_of e (fits_low s (suc m) e h) in
    subst (λ (x : ℕ). 0 < x) (sym (units_is (suc m * up e) (down e) r.0 (2 ^ 1074) (down_pos e) r.1))
    (mul-pos (mul-pos (omega arith) (up_pos e)) (second_pos (down e) r.0 (subst (λ (x : ℕ). 0 < x) (sym r.1) (pow_pos 1074))))
  where
    second_pos : (a b : ℕ) → 0 < a * b → 0 < b
    second_pos a zero h = absurd (let z : a * 0 ≡ 0 = mul-zero a in omega arith)
    second_pos a (suc b) h = omega arith

-- ---- the theorem

root_at : (k : ℕ) (x : Float) → T (fits binary64 x) → T (fits binary64 (scale (pos (k + k)) x)) → T (fine (root x)) → T (fine (root (scale (pos (k + k)) x)))
    → root (scale (pos (k + k)) x) ≡ scale (pos k) (root x)
unfolding root scale
root_at k nan F F' f f' = refl
root_at k (inf true) F F' f f' = refl
root_at k (inf false) F F' f f' = refl
root_at k (fin s zero e) F F' f f' = refl
root_at k (fin true (suc m) e) F F' f f' = refl
root_at k (fin false (suc m) e) F F' f f' =
    let r = units_of e (fits_low false (suc m) e F) in
    root_of_scaled k (units (fin false (suc m) e)) (units (fin false (suc m) (e +ℤ pos (k + k)))) (units_pos false m e F)
    (units_scaled (suc m * up e) (down e) r.0 (2 ^ 1074) (2 ^ (k + k)) (suc m * up (e +ℤ pos (k + k))) (down (e +ℤ pos (k + k))) (down_pos e) (down_pos (e +ℤ pos (k + k))) r.1 (moved_val (k + k) (suc m) e))
    (double_under false m e F) (double_under false m (e +ℤ pos (k + k)) F') f f'

pub root_scaled : (k : ℕ) (x : Float) {x' : Float} → Scaled (k + k) x x' → T (fits binary64 x) → T (fits binary64 x') → T (fine (root x)) → T (fine (root x'))
    → Scaled k (root x) (root x')
root_scaled k x p F F' f f' =
    ap root p ∙ root_at k x F (subst (λ (y : Float). T (fits binary64 y)) p F') f (subst (λ (y : Float). T (fine (root y))) p f')

-- only a zero has the root zero
pub root_zero : (x : Float) → T (fits binary64 x) → is_zero (root x) ≡ true → is_zero x ≡ true
unfolding root is_zero
root_zero nan F h = h
root_zero (inf true) F h = h
root_zero (inf false) F h = h
root_zero (fin s zero e) F h = refl
root_zero (fin true (suc m) e) F h = absurd (true≢false (sym h))
root_zero (fin false (suc m) e) F h = absurd (true≢false (sym h ∙ root_some (units (fin false (suc m) e)) (units_pos false m e F) (double_under false m e F)))
