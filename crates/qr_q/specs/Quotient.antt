-- A number whose square is finite, over a finite number above EPSILON, is finite: the quotient is below 2 ^ 104 or not above the square. Laws only.
use Rattle.std.specs.Prelude.{◌≡◌, refl, Bool, true, false, cond, ℕ, zero, suc, ◌+◌, ◌*◌, ◌^◌, ◌≤◌, ◌<◌, T, ltb, ℤ, negsuc, Float}
use Rattle.std.proofs.Common.{sym, ap, ◌∙◌, subst, true≢false, mul-le-mul, mul_assoc, mul_comm, mul_left_comm, mul-pos, mul-one, zero-mul, le_refl, le_trans, le_of_lt, le_of_eq, arith, ltb-true, ne_eqb}
use Rattle.std.proofs.Math.Decide.{dec_lt}
use Rattle.std.specs.Float.{nan, inf, fin, Format, binary64}
use Rattle.std.specs.Float.Ieee.{prec, emax, low, up, down, odd, units, round, of_bits, add, mul, div, lt, le}
use Rattle.std.specs.Float.Ieee.Fits.{up_pos, down_pos, round_is}
use Rattle.std.specs.Float.Ieee.Order.{round_mono}
use Rattle.grid.specs.Real.{epsilon, ◌⊕◌, ◌⊗◌, ◌⊘◌}
use Rattle.leaves.specs.Leaf.{is_finite}
use Rattle.root.specs.Root.{root}

-- ---- what an operation gave is finite, so what it was given is

pub add_finite : (x y : Float) → is_finite (x ⊕ y) ≡ true → (is_finite x ≡ true) × (is_finite y ≡ true)
unfolding add is_finite
add_finite nan y h = absurd (true≢false (sym h))
add_finite (inf s) nan h = absurd (true≢false (sym h))
add_finite (inf s) (inf t) h = absurd (true≢false (sym h ∙ go s t))
  where
    go : (s t : Bool) → is_finite (add binary64 (inf s) (inf t)) ≡ false
    go true true = refl
    go true false = refl
    go false true = refl
    go false false = refl
add_finite (inf s) (fin t n d) h = absurd (true≢false (sym h))
add_finite (fin s m e) nan h = absurd (true≢false (sym h))
add_finite (fin s m e) (inf t) h = absurd (true≢false (sym h))
add_finite (fin s m e) (fin t n d) h = (refl, refl)

pub root_finite : (x : Float) → is_finite (root x) ≡ true → is_finite x ≡ true
unfolding root is_finite
root_finite nan h = absurd (true≢false (sym h))
root_finite (inf true) h = absurd (true≢false (sym h))
root_finite (inf false) h = absurd (true≢false (sym h))
root_finite (fin s m e) h = refl

-- ---- rounding

odd_finite : (d : ℕ) (s : Bool) (q k l : ℕ) → is_finite (odd d s q k l) ≡ true
unfolding odd is_finite
odd_finite d s zero k l = refl
odd_finite d s (suc q) k l = refl

-- whether a rounded fraction is finite does not turn on its sign
units_sign : (f : Format) (s : Bool) (q k : ℕ) → is_finite (units f false q k) ≡ true → is_finite (units f s q k) ≡ true
unfolding units is_finite
units_sign f s q k = go (ltb (q * 2 ^ k) (2 ^ (low f + suc (emax f))))
  where
    go : (t : Bool) → is_finite (cond t (odd (suc (prec f)) false q k (low f)) (inf false)) ≡ true → is_finite (cond t (odd (suc (prec f)) s q k (low f)) (inf s)) ≡ true
    go true e = odd_finite (suc (prec f)) s q k (low f)
    go false e = absurd (true≢false (sym e))

sign_free : (f : Format) (s : Bool) (a b : ℕ) → is_finite (round f false a b) ≡ true → is_finite (round f s a b) ≡ true
sign_free f s a b h = ap is_finite (round_is f s a b) ∙ units_sign f s _ _ (ap is_finite (sym (round_is f false a b)) ∙ h)

under_finite : (y : Float) → is_finite y ≡ true → T (le (inf false) y) → ⊥
unfolding is_finite le
under_finite nan e t = true≢false (sym e)
under_finite (inf s) e t = true≢false (sym e)
under_finite (fin s m e) h t = t

units_under : (f : Format) (q k : ℕ) (y : Float) → is_finite y ≡ true → T (le (units f false q k) y) → is_finite (units f false q k) ≡ true
unfolding units is_finite
units_under f q k y e = go (ltb (q * 2 ^ k) (2 ^ (low f + suc (emax f))))
  where
    go : (t : Bool) → T (le (cond t (odd (suc (prec f)) false q k (low f)) (inf false)) y) → is_finite (cond t (odd (suc (prec f)) false q k (low f)) (inf false)) ≡ true
    go true t = odd_finite (suc (prec f)) false q k (low f)
    go false t = absurd (under_finite y e t)

-- a fraction that is no larger than one that rounds to a finite number rounds to a finite number
mono_finite : (f : Format) (a b c d : ℕ) → 0 < b → 0 < d → a * d ≤ c * b → is_finite (round f false c d) ≡ true → is_finite (round f false a b) ≡ true
mono_finite f a b c d B D h e =
    ap is_finite (round_is f false a b)
    ∙ units_under f _ _ (round f false c d) e (subst (λ (x : Float). T (le x (round f false c d))) (round_is f false a b) (round_mono f a b c d B D h))

-- ---- whole numbers: X / D is the number, N / E what it is divided by, above 1 / K

large : (K X D N E : ℕ) → E ≤ N * K → K * D ≤ X → X * E * (D * D) ≤ X * X * (N * D)
large K X D N E p q =
    let a : X * E * (D * D) ≤ X * (N * K) * (D * D) = mul-le-mul (mul-le-mul (le_refl X) p) (le_refl (D * D)) in
    let b : X * (N * K) * (D * D) ≡ X * (N * D) * (K * D) = simp (mul_assoc, mul_comm, mul_left_comm) in
    let c : X * (N * D) * (K * D) ≤ X * (N * D) * X = mul-le-mul (le_refl (X * (N * D))) q in
    let d : X * (N * D) * X ≡ X * X * (N * D) = simp (mul_assoc, mul_comm, mul_left_comm) in
    le_trans a (le_trans (le_of_eq b) (le_trans c (le_of_eq d)))

little : (K X D N E : ℕ) → E ≤ N * K → X ≤ K * D → X * E * 1 ≤ K * K * (N * D)
little K X D N E p q =
    let a : X * E ≤ K * D * (N * K) = mul-le-mul q p in
    let b : K * D * (N * K) ≡ K * K * (N * D) = simp (mul_assoc, mul_comm, mul_left_comm) in
    le_trans (le_of_eq (mul-one (X * E))) (le_trans a (le_of_eq b))

-- ---- the quotient

epsilon_is : epsilon ≡ fin false 1 (negsuc 51)
unfolding of_bits
epsilon_is = refl

-- 2 ^ 104 is a double
top_finite : is_finite (round binary64 false (2 ^ 52 * 2 ^ 52) 1) ≡ true
unfolding round is_finite
top_finite = refl

-- X / D over N / E, N / E above 2 ^ -52, where the square of X / D rounds to a finite number
fraction : (X D N E : ℕ) → 0 < D → 0 < N → E ≤ N * 2 ^ 52 → is_finite (round binary64 false (X * X) (D * D)) ≡ true → is_finite (round binary64 false (X * E) (N * D)) ≡ true
fraction X D N E d n p h = elim (dec_lt X (2 ^ 52 * D)) [
  | yes l ↦ mono_finite binary64 (X * E) (N * D) (2 ^ 52 * 2 ^ 52) 1 (mul-pos n d) one_pos (little (2 ^ 52) X D N E p (le_of_lt l)) top_finite
  | no l ↦ mono_finite binary64 (X * E) (N * D) (X * X) (D * D) (mul-pos n d) (mul-pos d d) (large (2 ^ 52) X D N E p (not_lt (2 ^ 52 * D) l)) h
]
  where
    one_pos : 0 < 1
    one_pos = omega arith

    not_lt : (k : ℕ) → (X < k → ⊥) → k ≤ X
    not_lt k l = omega arith

quotient_of : (s : Bool) (m : ℕ) (e : ℤ) (t : Bool) (n : ℕ) (d : ℤ) → is_finite (fin s m e ⊗ fin s m e) ≡ true → lt (fin false 1 (negsuc 51)) (fin t n d) ≡ true → is_finite (fin s m e ⊘ fin t n d) ≡ true
unfolding mul div lt is_finite
quotient_of s m e true n d h l = absurd (true≢false (sym l))
quotient_of s m e false n d h l =
    rw (ne_eqb n 0 some)
    (sign_free binary64 _ (m * up e * down d) (n * up d * down e)
    (fraction (m * up e) (down e) (n * up d) (down d) (down_pos e) (mul-pos (above n some) (up_pos d)) bound (same s h)))
  where
    bound : down d ≤ n * up d * 2 ^ 52
    bound = least (down d) _ (ltb-true (1 * 1 * down d) (n * up d * 2 ^ 52) l)
      where
        least : (x y : ℕ) → 1 * 1 * x < y → x ≤ y
        least x y h = omega arith

    some : n ≡ 0 → ⊥
    some z = none (down d) (n * up d * 2 ^ 52) (ap (λ (k : ℕ). k * up d * 2 ^ 52) z ∙ ap (λ (k : ℕ). k * 2 ^ 52) (zero-mul (up d)) ∙ zero-mul (2 ^ 52)) bound (down_pos d)
      where
        none : (x y : ℕ) → y ≡ 0 → x ≤ y → 0 < x → ⊥
        none x y a b c = omega arith

    above : (n : ℕ) → (n ≡ 0 → ⊥) → 0 < n
    above n d = omega arith

    same : (s : Bool) → is_finite (mul binary64 (fin s m e) (fin s m e)) ≡ true → is_finite (round binary64 false (m * up e * (m * up e)) (down e * down e)) ≡ true
    same true h = h
    same false h = h

nan_square : is_finite (nan ⊗ nan) ≡ true → ⊥
unfolding mul is_finite
nan_square h = true≢false (sym h)

inf_square : (s : Bool) → is_finite (inf s ⊗ inf s) ≡ true → ⊥
unfolding mul is_finite
inf_square s h = true≢false (sym h)

not_nan : is_finite nan ≡ true → ⊥
unfolding is_finite
not_nan h = true≢false (sym h)

not_inf : (t : Bool) → is_finite (inf t) ≡ true → ⊥
unfolding is_finite
not_inf t h = true≢false (sym h)

-- **the quotient is finite**
pub quotient : (c by : Float) → is_finite (c ⊗ c) ≡ true → is_finite by ≡ true → lt epsilon by ≡ true → is_finite (c ⊘ by) ≡ true
quotient c by h f l = go c by h f (ap (λ (x : Float). lt x by) (sym epsilon_is) ∙ l)
  where
    go : (c by : Float) → is_finite (c ⊗ c) ≡ true → is_finite by ≡ true → lt (fin false 1 (negsuc 51)) by ≡ true → is_finite (c ⊘ by) ≡ true
    go nan by h f l = absurd (nan_square h)
    go (inf s) by h f l = absurd (inf_square s h)
    go (fin s m e) nan h f l = absurd (not_nan f)
    go (fin s m e) (inf t) h f l = absurd (not_inf t f)
    go (fin s m e) (fin t n d) h f l = quotient_of s m e t n d h l
