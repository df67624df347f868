-- `round` and a power of two, in binary64. Laws only.
-- Where the rounded value is in the normal range, or the fraction is exactly zero, 2 ^ t times the fraction rounds to 2 ^ t times the value. And a fraction of one unit or more
-- does not round to zero.
use Rattle.std.specs.Prelude.{◌≡◌, Bool, true, false, cond, ◌||◌, T, ltb, eqb, pos, Float}
use Rattle.std.proofs.Math.Path.{refl}
use Rattle.std.proofs.Common.{sym, ap, ◌∙◌, subst, true≢false, le_trans, le_of_eq, lt_of_lt_of_le, lt_of_not-le, not-le_of_lt, one-mul, mul_comm, mul_assoc, mul_left_comm, mul_right_comm, mul-le-mul_right, mul-lt-mul_of_pos_right, lt_of_mul-lt-mul_right, mul-pos, le-div_iff_mul-le, div-lt_iff_lt-mul, zero-mul, arith, ltb→lt, pow-add, pow_pos, pow_mono}
use Prim.Native.Nat.{ℕ, zero, suc, ◌+◌, ◌-◌, ◌*◌, ◌/◌, ◌%◌, ◌^◌, ◌≤◌, ◌<◌, compare}
use Rattle.std.proofs.Math.Nat.{div-div-eq-div-mul}
use Rattle.std.proofs.Math.Dec.{eqb-suc-zero}
use Rattle.std.specs.Int.Count.{count_trailing_zeros}
use Rattle.std.specs.Float.{nan, inf, fin, binary64}
use Rattle.std.specs.Float.Ieee.{up, down, minus, size, odd, units, round}
use Rattle.std.specs.Float.Ieee.Digits.{size-lt, size-le, size_reaches, odd_val}
use Rattle.std.specs.Float.Ieee.Fits.{round_is, down_pos}
use Rattle.std.specs.Float.Ieee.Exact.{HasValue, units_val, odd_sign}
use Rattle.std.specs.Float.Ieee.Nearest.{closest, closest_same, nearest-ge}
use Rattle.std.specs.Float.Ieee.Order.{drop, kept}
use Rattle.std.specs.Float.Ieee.Scale.{round_same, normal_of_rounded, finite}
use Rattle.svd_gain_theorems.specs.Scale.{scale, is_zero, fine}
use Rattle.svd_gain_theorems.specs.ScaleLaws.{moved_pos, minus_shift}

-- ---- 2 ^ t times a fraction whose whole part has p digits at least: t more digits are dropped, and the same number is kept (the kit proves these two, and keeps them to itself)

pub size_gt : (n j : ℕ) → 2 ^ j ≤ n → j < size n
size_gt n j h = lt_of_not-le (λ (g : size n ≤ j). not-le_of_lt (lt_of_lt_of_le (size-lt n) (pow_mono g)) h)

pub join : (z t x : ℕ) → 0 < z → x ≤ z + t → z - 1 + t < x → x ≡ z + t
join z t x Z a b = omega arith

pub pred_lt : (z : ℕ) → 0 < z → z - 1 < z
pred_lt z h = omega arith

size_scale : (n c t : ℕ) → 0 < c → 0 < size (n / c) → size (n * 2 ^ t / c) ≡ size (n / c) + t
size_scale n c t C Z =
    let z = size (n / c) in
    let lo : 2 ^ (z - 1) * c ≤ n = (le-div_iff_mul-le C).0 (size_reaches (n / c) (z - 1) (pred_lt z Z)) in
    let hi : n < 2 ^ z * c = (div-lt_iff_lt-mul C).0 (size-lt (n / c)) in
    let lo' : 2 ^ (z - 1 + t) * c ≤ n * 2 ^ t = le_trans (le_of_eq (ap (λ (x : ℕ). x * c) (pow-add 2 (z - 1) t) ∙ mul_right_comm (2 ^ (z - 1)) (2 ^ t) c)) (mul-le-mul_right (2 ^ t) lo) in
    let hi' : n * 2 ^ t < 2 ^ (z + t) * c = lt_of_lt_of_le (mul-lt-mul_of_pos_right hi (pow_pos t)) (le_of_eq (mul_right_comm (2 ^ z) c (2 ^ t) ∙ ap (λ (x : ℕ). x * c) (sym (pow-add 2 z t)))) in
    join z t (size (n * 2 ^ t / c)) Z (size-le (n * 2 ^ t / c) (z + t) ((div-lt_iff_lt-mul C).1 hi')) (size_gt (n * 2 ^ t / c) (z - 1 + t) ((le-div_iff_mul-le C).1 lo'))

pub more : (z p t x : ℕ) → p ≤ z → x ≡ z + t → x - p ≡ z - p + t
more z p t x h e = omega arith

drop_scale : (p n c t : ℕ) → 0 < p → 0 < c → p ≤ size (n / c) → drop p (n * 2 ^ t) c ≡ drop p n c + t
drop_scale p n c t P C N = more (size (n / c)) p t (size (n * 2 ^ t / c)) N (size_scale n c t C (lt_of_lt_of_le P N))

kept_scale : (p n c t : ℕ) → 0 < p → 0 < c → p ≤ size (n / c) → kept p (n * 2 ^ t) c ≡ kept p n c
kept_scale p n c t P C N =
    let k = drop p n c in
    ap (λ (z : ℕ). closest (n * 2 ^ t) (c * 2 ^ z)) (drop_scale p n c t P C N)
    ∙ closest_same (n * 2 ^ t) (c * 2 ^ (k + t)) n (c * 2 ^ k) (mul-pos C (pow_pos (k + t))) (mul-pos C (pow_pos k)) (simp (mul_assoc, mul_comm, mul_left_comm, pow-add))

-- ---- what is written: t more digits dropped is 2 ^ t times the number

first_pos : (m u a d : ℕ) → m * u ≡ a * d → 0 < a → 0 < d → 0 < m
first_pos zero u a d h A D = absurd (let g : 0 < a * d = mul-pos A D in let z : 0 ≡ a * d = sym (zero-mul u) ∙ h in omega arith)
first_pos (suc m) u a d h A D = omega arith

odd_shift : (d : ℕ) (s : Bool) (q k l t : ℕ) → odd d s q (k + t) l ≡ scale (pos t) (odd d s q k l)
unfolding odd scale
odd_shift d s zero k l t = refl
odd_shift d s (suc q) k l t =
    let z = count_trailing_zeros d (suc q) in
    let m = suc q / 2 ^ z in
    let e = minus (k + z) l in
    let v : m * up e * 2 ^ l ≡ suc q * 2 ^ k * down e = odd_val d s (suc q) k l in
    let h : 0 < m = first_pos m (up e * 2 ^ l) (suc q * 2 ^ k) (down e) (sym (mul_assoc m (up e) (2 ^ l)) ∙ v) (mul-pos (omega arith) (pow_pos k)) (down_pos e) in
    ap (λ (j : ℕ). fin s m (minus j l)) (swap k t z) ∙ ap (fin s m) (minus_shift (k + z) l t ∙ sym (moved_pos (pos t) m e h))
  where
    swap : (k t z : ℕ) → k + t + z ≡ k + z + t
    swap k t z = omega arith

pub units_shift : (s : Bool) (q k t : ℕ) → T (finite (units binary64 s q k)) → T (finite (units binary64 s q (k + t)))
    → units binary64 s q (k + t) ≡ scale (pos t) (units binary64 s q k)
unfolding units
units_shift s q k t = go (ltb (q * 2 ^ k) (2 ^ 2098)) (ltb (q * 2 ^ (k + t)) (2 ^ 2098))
  where
    go : (b c : Bool) → T (finite (cond b (odd 54 s q k 1074) (inf s))) → T (finite (cond c (odd 54 s q (k + t) 1074) (inf s)))
        → cond c (odd 54 s q (k + t) 1074) (inf s) ≡ scale (pos t) (cond b (odd 54 s q k 1074) (inf s))
    go true true f g = odd_shift 54 s q k 1074 t
    go true false f g = absurd g
    go false c f g = absurd f

-- ---- above 2 ^ -1022 is above 2 ^ 52 units

pub fine_finite : (x : Float) → T (fine x) → T (finite x)
unfolding fine
fine_finite nan h = h
fine_finite (inf s) h = h
fine_finite (fin s m e) h = tt

second : (a b : Bool) → a ≡ false → T (a || b) → T b
second true b e t = absurd (true≢false e)
second false b e t = t

value_normal : (x : Float) (s : Bool) (G : ℕ) → HasValue x s G (2 ^ 1074) → T (fine x) → is_zero x ≡ false → 2 ^ 52 < G
unfolding fine is_zero
value_normal nan s G v f z = absurd v
value_normal (inf t) s G v f z = absurd v
value_normal (fin t m e) s G v f z =
    let h : down e < m * up e * 2 ^ 1022 = ltb→lt (down e) (m * up e * 2 ^ 1022) (second (eqb m 0) (ltb (down e) (m * up e * 2 ^ 1022)) z f) in
    let g : down e * 2 ^ 52 < m * up e * 2 ^ 1022 * 2 ^ 52 = mul-lt-mul_of_pos_right h (pow_pos 52) in
    let p : m * up e * 2 ^ 1022 * 2 ^ 52 ≡ m * up e * 2 ^ 1074 = mul_assoc (m * up e) (2 ^ 1022) (2 ^ 52) in
    let q : 2 ^ 52 * down e < G * down e = subst (λ (x : ℕ). x < G * down e) (mul_comm (down e) (2 ^ 52)) (subst (λ (x : ℕ). down e * 2 ^ 52 < x) (p ∙ v.1) g) in
    lt_of_mul-lt-mul_right (down e) q

pub units_under : (s : Bool) (q k : ℕ) → T (finite (units binary64 s q k)) → q * 2 ^ k < 2 ^ 2098
unfolding units
units_under s q k = go (ltb (q * 2 ^ k) (2 ^ 2098)) (ltb→lt (q * 2 ^ k) (2 ^ 2098))
  where
    go : (b : Bool) → (T b → q * 2 ^ k < 2 ^ 2098) → T (finite (cond b (odd 54 s q k 1074) (inf s))) → q * 2 ^ k < 2 ^ 2098
    go true h t = h tt
    go false h t = absurd t

pub units_normal : (s : Bool) (q k : ℕ) → T (fine (units binary64 s q k)) → is_zero (units binary64 s q k) ≡ false → 2 ^ 52 < q * 2 ^ k
units_normal s q k f z =
    value_normal (units binary64 s q k) s (q * 2 ^ k) (units_val binary64 s q k (units_under s q k (fine_finite (units binary64 s q k) f))) f z

-- ---- the theorem

round_one : (s : Bool) → round binary64 s 0 1 ≡ fin s 0 (pos 0)
unfolding round units odd
round_one s = refl

pub round_zero : (s : Bool) (c : ℕ) → 0 < c → round binary64 s 0 c ≡ fin s 0 (pos 0)
round_zero s c C = round_same binary64 s 0 c 0 1 C (omega arith) (sym (zero-mul c)) ∙ round_one s

zero_scaled : (s : Bool) (c t : ℕ) → 0 < c → round binary64 s 0 c ≡ scale (pos t) (round binary64 s 0 c)
unfolding scale
zero_scaled s c t C = round_zero s c C ∙ ap (scale (pos t)) (sym (round_zero s c C))

pub round_scaled : (s : Bool) (a c t : ℕ) → 0 < c → T (fine (round binary64 s a c)) → (T (is_zero (round binary64 s a c)) → a ≡ 0)
    → T (finite (round binary64 s (a * 2 ^ t) c)) → round binary64 s (a * 2 ^ t) c ≡ scale (pos t) (round binary64 s a c)
round_scaled s a c t C f z g = go (is_zero (round binary64 s a c)) refl
  where
    n : ℕ
    n = a * 2 ^ 1074

    is : round binary64 s a c ≡ units binary64 s (kept 53 n c) (drop 53 n c)
    is = round_is binary64 s a c

    big : 53 ≤ size (n / c) → round binary64 s (a * 2 ^ t) c ≡ scale (pos t) (round binary64 s a c)
    big N =
        let e : round binary64 s (a * 2 ^ t) c ≡ units binary64 s (kept 53 n c) (drop 53 n c + t) =
        round_is binary64 s (a * 2 ^ t) c
        ∙ ap (λ (x : ℕ). units binary64 s (kept 53 x c) (drop 53 x c)) (mul_right_comm a (2 ^ t) (2 ^ 1074))
        ∙ ap (λ (x : ℕ). units binary64 s x (drop 53 (n * 2 ^ t) c)) (kept_scale 53 n c t (omega arith) C N)
        ∙ ap (λ (x : ℕ). units binary64 s (kept 53 n c) x) (drop_scale 53 n c t (omega arith) C N) in
        e
        ∙ units_shift s (kept 53 n c) (drop 53 n c) t (subst (λ (x : Float). T (finite x)) is (fine_finite (round binary64 s a c) f)) (subst (λ (x : Float). T (finite x)) e g)
        ∙ ap (scale (pos t)) (sym is)

    go : (b : Bool) → is_zero (round binary64 s a c) ≡ b → round binary64 s (a * 2 ^ t) c ≡ scale (pos t) (round binary64 s a c)
    go true e =
        let o : a ≡ 0 = z (subst T (sym e) tt) in
        subst (λ (x : ℕ). round binary64 s (x * 2 ^ t) c ≡ scale (pos t) (round binary64 s x c)) (sym o)
        (ap (λ (x : ℕ). round binary64 s x c) (zero-mul (2 ^ t)) ∙ zero_scaled s c t C)
    go false e =
        big
        (normal_of_rounded binary64 a c
        (units_normal s (kept 53 n c) (drop 53 n c) (subst (λ (x : Float). T (fine x)) is f) (subst (λ (x : Float). is_zero x ≡ false) is e)))

-- equal fractions, but for the 2 ^ t
pub round_scaled_at : (s : Bool) (a c a' c' t : ℕ) → 0 < c → 0 < c' → a' * c ≡ a * 2 ^ t * c' → T (fine (round binary64 s a c)) → (T (is_zero (round binary64 s a c)) → a ≡ 0)
    → T (finite (round binary64 s a' c')) → round binary64 s a' c' ≡ scale (pos t) (round binary64 s a c)
round_scaled_at s a c a' c' t C C' h f z g =
    let e : round binary64 s a' c' ≡ round binary64 s (a * 2 ^ t) c = round_same binary64 s a' c' (a * 2 ^ t) c C' C h in
    e ∙ round_scaled s a c t C f z (subst (λ (x : Float). T (finite x)) e g)

-- ---- one unit or more is not zero

value_some : (x : Float) (s : Bool) (a c : ℕ) → 0 < a → HasValue x s a c → is_zero x ≡ false
unfolding is_zero
value_some nan s a c h v = refl
value_some (inf t) s a c h v = refl
value_some (fin t zero e) s a c h v =
    let p : 0 < a * down e = mul-pos h (down_pos e) in
    let q : 0 ≡ a * down e = sym (simp zero-mul) ∙ v.1 in
    absurd (omega arith)
value_some (fin t (suc m) e) s a c h v = eqb-suc-zero m

units_some : (s : Bool) (q k : ℕ) → 0 < q → is_zero (units binary64 s q k) ≡ false
unfolding units
units_some s q k h = go (ltb (q * 2 ^ k) (2 ^ 2098))
  where
    go : (b : Bool) → is_zero (cond b (odd 54 s q k 1074) (inf s)) ≡ false
    go true = value_some (odd 54 s q k 1074) s (q * 2 ^ k) (2 ^ 1074) (mul-pos h (pow_pos k)) (odd_sign 54 s q k 1074)
    go false = unfold is_zero in refl

less : (z : ℕ) → 0 < z → z - 53 < z
less z h = omega arith

pub round_some : (s : Bool) (a c : ℕ) → 0 < c → c ≤ a * 2 ^ 1074 → is_zero (round binary64 s a c) ≡ false
round_some s a c C h =
    let n = a * 2 ^ 1074 in
    let X = n / c in
    let k = size X - 53 in
    let one : 2 ^ 0 ≤ X = (le-div_iff_mul-le C).1 (subst (λ (x : ℕ). x ≤ n) (sym (one-mul c)) h) in
    let low : 1 * 2 ^ k ≤ X = subst (λ (x : ℕ). x ≤ X) (sym (one-mul (2 ^ k))) (size_reaches X k (less (size X) (size_gt X 0 one))) in
    let part : 1 ≤ n / (c * 2 ^ k) = subst (λ (x : ℕ). 1 ≤ x) (div-div-eq-div-mul n c (2 ^ k)) ((le-div_iff_mul-le (pow_pos k)).1 low) in
    ap is_zero (round_is binary64 s a c) ∙ units_some s (kept 53 n c) k (le_trans part (nearest-ge (n / (c * 2 ^ k)) (compare (n % (c * 2 ^ k) * 2) (c * 2 ^ k))))
