-- hypot of two numbers times 2 ^ k is 2 ^ k times their hypot, in both editions (`pythag_scaled`). Laws only.
-- Edition 2 rounds a whole root, and is exact where that is the root: so is it of the numbers times 2 ^ k, and only then.
use Rattle.std.specs.Prelude.{◌≡◌, refl, Bool, true, false, cond, ◌||◌, ℕ, zero, suc, ◌+◌, ◌*◌, ◌/◌, ◌%◌, ◌^◌, ◌≤◌, ◌<◌, T, eqb, ℤ, pos, Float}
use Rattle.std.proofs.Common.{sym, ap, ap₂, ◌∙◌, subst, subst₂, add-zero, add-mul, mul-one, zero-mul, mul_assoc, mul_left_comm, mul-pos, mul-le-mul_left, mul-le-mul_right, le_antisymm, lt_of_le_of_lt, arith, eqb-true, lit≤, pow-add, pow_pos}
use Rattle.std.proofs.lemmas.Bool.{eqb-false}
use Rattle.std.specs.Float.{nan, inf, fin, binary64}
use Rattle.std.specs.Float.Ieee.{up, down, size, round, fits, lt, eq}
use Rattle.std.specs.Float.Ieee as Ieee
use Rattle.std.specs.Float.Ieee.Fits.{round_is, down_pos, round-fits, mul-fits, cond-fits, nan-fits, inf-fits}
use Rattle.std.specs.Float.Ieee.Order.{drop, kept}
use Rattle.std.specs.Float.Ieee.Scale.{normal_of_rounded}
use Rattle.grid.specs.Real.{zero64, one64, ◌⊕◌, ◌⊗◌, ◌⊘◌}
use Rattle.root.specs.Root.{whole, units, root}
use Rattle.root.proofs.Whole.{Is, whole_is, sq_lt_back, sq_mul, sq_even, sq_suc}
use Rattle.leaves.specs.Leaf.{magnitude, hypot_of, hypot}
use Rattle.hypot.specs.Hypot2.{root_of_sum, hypot2}
use Rattle.hypot.specs.Edition.{pythag}
use Rattle.hypot.specs.Patterns.{zero_units}
use Rattle.hypot.specs.Rounds.{in_reach}
use Rattle.svd_gain_theorems.specs.Scale.{moved, scale, is_zero, fine, Scaled, Product}
use Rattle.svd_gain_theorems.specs.ScaleLaws.{moved_val, scale_none}
use Rattle.svd_gain_theorems.proofs.Round.{fine_finite, units_normal, round_zero, round_some, round_scaled_at}
use Rattle.svd_gain_theorems.specs.Compare.{lt_scaled, eq_scaled, magnitude_scaled}
use Rattle.svd_gain_theorems.proofs.Ops.{fits_low, units_of, mul_scaled, div_same}
use Rattle.svd_gain_theorems.proofs.RootScaled.{whole_scale, middle_scaled, whole_part, units_scaled, units_high, root_low, fits_high}
use Rattle.svd_gain_theorems.proofs.Turn.{zero_is, zero_fits}
use Rattle.gain_path_theorems.specs.Wholes.{four_power}
use Rattle.gain_path_theorems.specs.HypotFine.{HypotFine}

-- ---- edition 2: a whole root that is the root

-- a number has one whole root
one_whole : (n a b : ℕ) → Is n a → Is n b → a ≡ b
one_whole n a b p q = le_antisymm (pred a b (sq_lt_back a (b + 1) (lt_of_le_of_lt p.0 q.1))) (pred b a (sq_lt_back b (a + 1) (lt_of_le_of_lt q.0 p.1)))
  where
    pred : (a b : ℕ) → a < b + 1 → a ≤ b
    pred a b h = omega arith

-- a root is its own whole root
is_root : (n r : ℕ) → r * r ≡ n → Is n r
is_root n r e = (omega arith, omega (arith, sq_suc r))

even_root : (s m : ℕ) → s * s ≡ 4 * m → (r : ℕ) × (r * r ≡ m)
even_root s m h = go (s % 2) refl
  where
    q : ℕ
    q = s / 2

    go : (b : ℕ) → s % 2 ≡ b → (r : ℕ) × (r * r ≡ m)
    go zero e =
        let d : s ≡ q * 2 = omega arith in
        let f : q * 2 * (q * 2) ≡ 4 * m = ap (λ (x : ℕ). x * x) (sym d) ∙ h in
        (q, omega (arith, sq_even q))
    go (suc b) e =
        let d : s ≡ q * 2 + 1 = omega arith in
        let f : (q * 2 + 1) * (q * 2 + 1) ≡ 4 * m = ap (λ (x : ℕ). x * x) (sym d) ∙ h in
        absurd (omega (arith, sq_even q, sq_suc (q * 2)))

-- the square that 4 ^ t times a number is, that number is too
root_of_power : (t s n : ℕ) → s * s ≡ n * 2 ^ (t + t) → (r : ℕ) × (r * r ≡ n)
root_of_power zero s n h = (s, h ∙ mul-one n)
root_of_power (suc t) s n h =
    let i : suc t + suc t ≡ 2 + (t + t) = omega arith in
    let e : s * s ≡ 4 * (n * 2 ^ (t + t)) = h ∙ ap (λ (x : ℕ). n * 2 ^ x) i ∙ ap (λ (x : ℕ). n * x) (pow-add 2 2 (t + t)) ∙ mul_left_comm n 4 (2 ^ (t + t)) in
    let r = even_root s (n * 2 ^ (t + t)) e in
    root_of_power t r.0 n r.1

-- what is rounded, of a whole root s, and whether it is the root
abbrev part : Bool → ℕ → Float
part b s = round binary64 false (2 * s + cond b 0 1) (2 ^ 1076)

module _ (t n w w' : ℕ) (n_pos : 0 < n) (is : Is (4 * n) w) (is' : Is (4 * n * 2 ^ (t + t)) w') (cut : w' / 2 ^ t ≡ w) where
  at_least : 0 < w / 2
  at_least = go w is
    where
      go : (w : ℕ) → Is (4 * n) w → 0 < w / 2
      go zero i = absurd (omega (arith, i.1))
      go (suc zero) i = absurd (omega (arith, i.1))
      go (suc (suc w)) i = omega arith

  exact : w * w ≡ 4 * n → w' ≡ w * 2 ^ t
  exact e = one_whole (4 * n * 2 ^ (t + t)) w' (w * 2 ^ t) is' (is_root (4 * n * 2 ^ (t + t)) (w * 2 ^ t) (sq_mul w (2 ^ t) ∙ ap₂ ◌*◌ e (sym (pow-add 2 t t))))

  exact_back : w' * w' ≡ 4 * n * 2 ^ (t + t) → w * w ≡ 4 * n
  exact_back e =
      let r = root_of_power t w' (4 * n) e in
      ap (λ (x : ℕ). x * x) (one_whole (4 * n) w r.0 is (is_root (4 * n) r.0 r.1)) ∙ r.1

  whole_part_scaled : T (fine (part true w)) → T (fine (part true (w * 2 ^ t))) → part true (w * 2 ^ t) ≡ scale (pos t) (part true w)
  whole_part_scaled f f' =
      round_scaled_at false (2 * w + 0) (2 ^ 1076) (2 * (w * 2 ^ t) + 0) (2 ^ 1076) t (pow_pos 1076) (pow_pos 1076) (ap (λ (x : ℕ). x * 2 ^ 1076) (out w (2 ^ t))) f
      (λ z. absurd (subst T (round_some false (2 * w + 0) (2 ^ 1076) (pow_pos 1076) (low w (2 ^ 1074) at_least)) z)) (fine_finite _ f')
    where
      out : (w P : ℕ) → 2 * (w * P) + 0 ≡ (2 * w + 0) * P
      out w P = simp (add-zero, mul_assoc)

      low : (w P : ℕ) → 0 < w / 2 → 4 * P ≤ (2 * w + 0) * P
      low w P h = mul-le-mul_right P (four w h)
        where
          four : (w : ℕ) → 0 < w / 2 → 4 ≤ 2 * w + 0
          four w h = omega arith

  middle_part_scaled : T (fine (part false w)) → T (fine (part false w')) → part false w' ≡ scale (pos t) (part false w)
  middle_part_scaled f f' =
      let r = kept 53 ((2 * w + 1) * 2 ^ 1074) (2 ^ 1076) in
      let k = drop 53 ((2 * w + 1) * 2 ^ 1074) (2 ^ 1076) in
      let e : round binary64 false (2 * w + 1) (2 ^ 1076) ≡ Ieee.units binary64 false r k = round_is binary64 false (2 * w + 1) (2 ^ 1076) in
      let some : is_zero (round binary64 false (2 * w + 1) (2 ^ 1076)) ≡ false = round_some false (2 * w + 1) (2 ^ 1076) (pow_pos 1076) (root_low w at_least) in
      let N : 53 ≤ size ((2 * w + 1) * 2 ^ 1074 / 2 ^ 1076) =
      normal_of_rounded binary64 (2 * w + 1) (2 ^ 1076)
      (units_normal false r k (subst (λ (x : Float). T (fine x)) e f) (subst (λ (x : Float). is_zero x ≡ false) e some)) in
      middle_scaled w w' t cut (subst (λ (x : ℕ). 53 ≤ size x) (whole_part w (2 ^ 1074) (pow_pos 1074)) N) (fine_finite _ f) (fine_finite _ f')

  sum_scaled : T (fine (part (eqb (w * w) (4 * n)) w)) → T (fine (part (eqb (w' * w') (4 * n * 2 ^ (t + t))) w'))
      → part (eqb (w' * w') (4 * n * 2 ^ (t + t))) w' ≡ scale (pos t) (part (eqb (w * w) (4 * n)) w)
  sum_scaled f f' = go (eqb (w * w) (4 * n)) refl (eqb (w' * w') (4 * n * 2 ^ (t + t))) refl f f'
    where
      go : (b : Bool) → eqb (w * w) (4 * n) ≡ b → (d : Bool) → eqb (w' * w') (4 * n * 2 ^ (t + t)) ≡ d → T (fine (part b w)) → T (fine (part d w')) → part d w' ≡ scale (pos t) (part b w)
      go true e true g f f' =
          let x : w' ≡ w * 2 ^ t = exact (eqb-true (w * w) (4 * n) e) in
          ap (part true) x ∙ whole_part_scaled f (subst (λ (s : ℕ). T (fine (part true s))) x f')
      go true e false g f f' =
          let x : w' ≡ w * 2 ^ t = exact (eqb-true (w * w) (4 * n) e) in
          absurd (eqb-false (w' * w') (4 * n * 2 ^ (t + t)) g (ap (λ (s : ℕ). s * s) x ∙ sq_mul w (2 ^ t) ∙ ap₂ ◌*◌ (eqb-true (w * w) (4 * n) e) (sym (pow-add 2 t t))))
      go false e true g f f' = absurd (eqb-false (w * w) (4 * n) e (exact_back (eqb-true (w' * w') (4 * n * 2 ^ (t + t)) g)))
      go false e false g f f' = middle_part_scaled f f'

-- ---- edition 2

none : root_of_sum 0 ≡ fin false 0 (pos 0)
unfolding root_of_sum
none = by (whole 2100 0) (one_whole 0 (whole 2100 0) 0 (whole_is 2100 0 (four_pos 2100)) (is_root 0 0 refl))
  where
    four_pos : (j : ℕ) → 0 < 4 ^ j
    four_pos j = subst (λ (x : ℕ). 0 < x) (sym (four_power j)) (pow_pos (j + j))

    by : (s : ℕ) → s ≡ 0 → round binary64 false (2 * s + cond (eqb (s * s) 0) 0 1) (2 ^ 1076) ≡ fin false 0 (pos 0)
    by s e = ap (λ (s : ℕ). round binary64 false (2 * s + cond (eqb (s * s) 0) 0 1) (2 ^ 1076)) e ∙ round_zero false (2 ^ 1076) (pow_pos 1076)

-- as a function of four times the sum
abbrev form : ℕ → Float
form x = part (eqb (whole 2100 x * whole 2100 x) x) (whole 2100 x)

root_form : (n : ℕ) → root_of_sum n ≡ form (4 * n)
unfolding root_of_sum
root_form n = refl

at_most : (a P : ℕ) → 0 < P → a ≤ a * P
at_most a P h = subst (λ (x : ℕ). x ≤ a * P) (mul-one a) (mul-le-mul_left a h)

sum_root : (t n : ℕ) → 4 * (n * 2 ^ (t + t)) < 4 ^ 2100 → T (fine (root_of_sum n)) → T (fine (root_of_sum (n * 2 ^ (t + t)))) → root_of_sum (n * 2 ^ (t + t)) ≡ scale (pos t) (root_of_sum n)
unfolding scale
sum_root t zero u f f' = ap root_of_sum (zero-mul (2 ^ (t + t))) ∙ none ∙ ap (scale (pos t)) (sym none)
sum_root t (suc m) u f f' =
    let P = 2 ^ (t + t) in
    let a = 4 * suc m in
    let regroup : 4 * (suc m * P) ≡ a * P = sym (mul_assoc 4 (suc m) P) in
    let under : a * P < 4 ^ 2100 = subst (λ (x : ℕ). x < 4 ^ 2100) regroup u in
    let e : root_of_sum (suc m * P) ≡ form (a * P) = root_form (suc m * P) ∙ ap form regroup in
    let e₀ : root_of_sum (suc m) ≡ form a = root_form (suc m) in
    e
    ∙ sum_scaled t (suc m) (whole 2100 a) (whole 2100 (a * P)) (omega arith) (whole_is 2100 a (lt_of_le_of_lt (at_most a P (pow_pos (t + t))) under)) (whole_is 2100 (a * P) under)
    (whole_scale 2100 t a (mul-pos (omega arith) (omega arith)) (subst (λ (x : ℕ). a * P < x) (four_power 2100) under))
    (subst (λ (x : Float). T (fine x)) e₀ f) (subst (λ (x : Float). T (fine x)) e f')
    ∙ ap (scale (pos t)) (sym e₀)

units_lt : (s : Bool) (m : ℕ) (e : ℤ) → T (fits binary64 (fin s m e)) → units (fin s m e) < 2 ^ 2098
units_lt s zero e F = subst (λ (x : ℕ). x < 2 ^ 2098) (sym (zero_units e)) (pow_pos 2098)
units_lt s (suc m) e F =
    units_high (suc m * up e) (down e) (2 ^ 1074) (2 ^ 1024) (2 ^ 2098) (down_pos e) (pow_pos 1074) (fits_high s m e F) (lit≤ tt)

units_at : (k : ℕ) (s : Bool) (m : ℕ) (e : ℤ) → T (fits binary64 (fin s m e)) → units (fin s m (moved (pos k) m e)) ≡ units (fin s m e) * 2 ^ k
units_at k s m e F =
    let r = units_of e (fits_low s m e F) in
    let e' = moved (pos k) m e in
    units_scaled (m * up e) (down e) r.0 (2 ^ 1074) (2 ^ k) (m * up e') (down e') (down_pos e) (down_pos e') r.1 (moved_val k m e)

squares : (k u v u' v' : ℕ) → u' ≡ u * 2 ^ k → v' ≡ v * 2 ^ k → u' * u' + v' * v' ≡ (u * u + v * v) * 2 ^ (k + k)
squares k u v u' v' p q =
    let P = 2 ^ k in
    ap₂ (λ (x y : ℕ). x * x + y * y) p q
    ∙ ap₂ ◌+◌ (sq_mul u P) (sq_mul v P)
    ∙ sym (add-mul (u * u) (v * v) (P * P))
    ∙ ap (λ (x : ℕ). (u * u + v * v) * x) (sym (pow-add 2 k k))

hypot2_at : (k : ℕ) (x y : Float) → T (fits binary64 x) → T (fits binary64 y) → T (fits binary64 (scale (pos k) x)) → T (fits binary64 (scale (pos k) y))
    → T (fine (hypot2 x y)) → T (fine (hypot2 (scale (pos k) x) (scale (pos k) y))) → hypot2 (scale (pos k) x) (scale (pos k) y) ≡ scale (pos k) (hypot2 x y)
unfolding hypot2 scale
hypot2_at k (inf s) y F G F' G' f f' = refl
hypot2_at k nan (inf t) F G F' G' f f' = refl
hypot2_at k nan nan F G F' G' f f' = refl
hypot2_at k nan (fin t n d) F G F' G' f f' = refl
hypot2_at k (fin s m e) (inf t) F G F' G' f f' = refl
hypot2_at k (fin s m e) nan F G F' G' f f' = refl
hypot2_at k (fin s m e) (fin t n d) F G F' G' f f' =
    let u = units (fin s m e) in
    let v = units (fin t n d) in
    let u' = units (fin s m (moved (pos k) m e)) in
    let v' = units (fin t n (moved (pos k) n d)) in
    let q : u' * u' + v' * v' ≡ (u * u + v * v) * 2 ^ (k + k) = squares k u v u' v' (units_at k s m e F) (units_at k t n d G) in
    let under : 4 * ((u * u + v * v) * 2 ^ (k + k)) < 4 ^ 2100 = subst (λ (x : ℕ). 4 * x < 4 ^ 2100) q (in_reach u' v' (units_lt s m (moved (pos k) m e) F') (units_lt t n (moved (pos k) n d) G')) in
    ap root_of_sum q ∙ sum_root k (u * u + v * v) under f (subst (λ (x : ℕ). T (fine (root_of_sum x))) q f')

-- ---- edition 1

-- the factor behind the greater magnitude
abbrev rest : Float → Float → Float
rest a b = root (one64 ⊕ b ⊘ a ⊗ (b ⊘ a))

-- a second factor that is the same in both
pub mul_left : (k : ℕ) (x y : Float) {x' : Float} → Scaled k x x' → Product x y → Product x' y → Scaled k (x ⊗ y) (x' ⊗ y)
mul_left k x y {x'} p P P' = subst (λ (n : ℕ). Scaled n (x ⊗ y) (x' ⊗ y)) (add-zero k) (mul_scaled k 0 x y p (sym (scale_none y)) P P')

hypot_of_scaled : (k : ℕ) (a b : Float) {a' b' : Float} → Scaled k a a' → Scaled k b b' → (eq a zero64 ≡ false → Product a (rest a b)) → (eq a' zero64 ≡ false → Product a' (rest a' b'))
    → Scaled k (hypot_of a b) (hypot_of a' b')
unfolding hypot_of
hypot_of_scaled k a b {a'} {b'} p q P P' = go (eq a zero64) refl
  where
    same : eq a' zero64 ≡ eq a zero64
    same = ap₂ eq p (zero_is k) ∙ eq_scaled k a zero64

    part_same : b' ⊘ a' ≡ b ⊘ a
    part_same = div_same k b a q p

    go : (t : Bool) → eq a zero64 ≡ t → Scaled k (cond (eq a zero64) zero64 (a ⊗ rest a b)) (cond (eq a' zero64) zero64 (a' ⊗ rest a' b'))
    go true e = rw (same, e) (zero_is k)
    go false e =
        rw (same, e)
        (ap (λ (z : Float). a' ⊗ root (one64 ⊕ z ⊗ z)) part_same
        ∙ mul_left k a (rest a b) p (P e) (subst (λ (z : Float). Product a' (root (one64 ⊕ z ⊗ z))) part_same (P' (same ∙ e))))

or_left : (a b : Bool) → a ≡ true → (a || b) ≡ true
or_left a b e = rw e

product_of : (a b : Float) → T (fine (hypot_of a b)) → (is_zero (hypot_of a b) ≡ true → is_zero a ≡ true) → eq a zero64 ≡ false → Product a (rest a b)
unfolding hypot_of
product_of a b f z e = record { good = rw e at f; zeros = λ h. or_left (is_zero a) (is_zero (rest a b)) (rw e at z h) }

magnitude_zero : (x : Float) → is_zero (magnitude x) ≡ is_zero x
unfolding is_zero magnitude
magnitude_zero nan = refl
magnitude_zero (inf s) = refl
magnitude_zero (fin s m e) = refl

hypot_scaled : (k : ℕ) (x y : Float) {x' y' : Float} → Scaled k x x' → Scaled k y y'
    → T (fine (hypot x y)) → (is_zero (hypot x y) ≡ true → (is_zero x ≡ true) × (is_zero y ≡ true))
    → T (fine (hypot x' y')) → (is_zero (hypot x' y') ≡ true → (is_zero x' ≡ true) × (is_zero y' ≡ true)) → Scaled k (hypot x y) (hypot x' y')
unfolding hypot
hypot_scaled k x y {x'} {y'} p q f z f' z' = go (lt (magnitude x) (magnitude y)) refl
  where
    px : Scaled k (magnitude x) (magnitude x')
    px = ap magnitude p ∙ magnitude_scaled (pos k) x

    qy : Scaled k (magnitude y) (magnitude y')
    qy = ap magnitude q ∙ magnitude_scaled (pos k) y

    same : lt (magnitude x') (magnitude y') ≡ lt (magnitude x) (magnitude y)
    same = ap₂ lt px qy ∙ lt_scaled k (magnitude x) (magnitude y)

    go : (t : Bool) → lt (magnitude x) (magnitude y) ≡ t
        → Scaled k (cond (lt (magnitude x) (magnitude y)) (hypot_of (magnitude y) (magnitude x)) (hypot_of (magnitude x) (magnitude y)))
        (cond (lt (magnitude x') (magnitude y')) (hypot_of (magnitude y') (magnitude x')) (hypot_of (magnitude x') (magnitude y')))
    go true e =
        let e' : lt (magnitude x') (magnitude y') ≡ true = same ∙ e in
        rw (same, e)
        (hypot_of_scaled k (magnitude y) (magnitude x) qy px
        (product_of (magnitude y) (magnitude x) (rw e at f) (λ h. magnitude_zero y ∙ (rw e at z h).1))
        (product_of (magnitude y') (magnitude x') (rw e' at f') (λ h. magnitude_zero y' ∙ (rw e' at z' h).1)))
    go false e =
        let e' : lt (magnitude x') (magnitude y') ≡ false = same ∙ e in
        rw (same, e)
        (hypot_of_scaled k (magnitude x) (magnitude y) px qy
        (product_of (magnitude x) (magnitude y) (rw e at f) (λ h. magnitude_zero x ∙ (rw e at z h).0))
        (product_of (magnitude x') (magnitude y') (rw e' at f') (λ h. magnitude_zero x' ∙ (rw e' at z' h).0)))

-- ---- the theorem

pub pythag_scaled : (k edition : ℕ) (x y : Float) {x' y' : Float} → Scaled k x x' → Scaled k y y'
    → T (fits binary64 x) → T (fits binary64 y) → T (fits binary64 x') → T (fits binary64 y')
    → HypotFine edition x y → HypotFine edition x' y' → Scaled k (pythag edition x y) (pythag edition x' y')
unfolding pythag
pythag_scaled k edition x y {x'} {y'} p q F G F' G' H H' = go (eqb edition 1) H.good H.zeros H'.good H'.zeros
  where
    go : (b : Bool) → T (fine (cond b (hypot x y) (hypot2 x y))) → (is_zero (cond b (hypot x y) (hypot2 x y)) ≡ true → (is_zero x ≡ true) × (is_zero y ≡ true))
        → T (fine (cond b (hypot x' y') (hypot2 x' y'))) → (is_zero (cond b (hypot x' y') (hypot2 x' y')) ≡ true → (is_zero x' ≡ true) × (is_zero y' ≡ true))
        → Scaled k (cond b (hypot x y) (hypot2 x y)) (cond b (hypot x' y') (hypot2 x' y'))
    go true f z f' z' = hypot_scaled k x y p q f z f' z'
    go false f z f' z' =
        ap₂ hypot2 p q
        ∙ hypot2_at k x y F G (subst (λ (u : Float). T (fits binary64 u)) p F') (subst (λ (u : Float). T (fits binary64 u)) q G') f
        (subst₂ (λ (u v : Float). T (fine (hypot2 u v))) p q f')

sum_fits : (n : ℕ) → T (fits binary64 (root_of_sum n))
sum_fits n =
    let w = whole 2100 (4 * n) in
    subst (λ (x : Float). T (fits binary64 x)) (sym (root_form n)) (round-fits binary64 false (2 * w + cond (eqb (w * w) (4 * n)) 0 1) (2 ^ 1076))

pub pythag_fits : (edition : ℕ) (x y : Float) → T (fits binary64 (pythag edition x y))
unfolding pythag hypot hypot_of hypot2
pythag_fits edition x y = cond-fits binary64 (eqb edition 1) (hypot x y) (hypot2 x y) (cond-fits binary64 (lt (magnitude x) (magnitude y)) _ _ (of (magnitude y) (magnitude x)) (of (magnitude x) (magnitude y))) (two x y)
  where
    of : (a b : Float) → T (fits binary64 (hypot_of a b))
    of a b = cond-fits binary64 (eq a zero64) zero64 (a ⊗ rest a b) zero_fits (mul-fits binary64 a (rest a b))

    two : (x y : Float) → T (fits binary64 (hypot2 x y))
    two (inf s) y = inf-fits binary64 false
    two nan (inf t) = inf-fits binary64 false
    two nan nan = nan-fits binary64
    two nan (fin t n d) = nan-fits binary64
    two (fin s m e) (inf t) = inf-fits binary64 false
    two (fin s m e) nan = nan-fits binary64
    two (fin s m e) (fin t n d) = sum_fits (units (fin s m e) * units (fin s m e) + units (fin t n d) * units (fin t n d))
