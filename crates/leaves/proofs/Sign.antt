-- The sign of a number, and its magnitude.
use mathlib.Core.Path.{◌≡◌, refl, sym, ap, ◌∙◌}
use Prim.Native.Nat.{ℕ, zero, suc, ◌+◌, ◌*◌, ◌^◌}
use native.Mathlib.Nat.{zero-mul, mul-one, mul-pos, zero-lt-suc, pow-suc, one-mul}
use native.Mathlib.Omega.{arith}
use mathlib.Core.Bool.{Bool, true, false, ◌&&◌, ◌||◌, true≢false}
use borrow.Author.Tests.{ltb-true, ltb-false, eqb-true}
use lib.IntN.{ℤ, pos, negsuc}
use lib.Dec.{T, eqb, eqb→eq}
use lib.Pow.{pow_pos}
use lib.Ieee.{Float, nan, inf, fin, binary64, up, down, neg, lt, eq, fits, of_bits}
use lib.Ieee.Fits.{up_pos}
use Rattle.grid.specs.Real.{zero64}
use Rattle.leaves.specs.Leaf.{magnitude}

is_zero : zero64 ≡ fin false 0 (pos 0)
unfolding of_bits
is_zero = refl

-- the sign bit taken off, where x is below zero
negative_of : (x : Float) → lt x (fin false 0 (pos 0)) ≡ true → neg x ≡ magnitude x
unfolding lt neg magnitude
negative_of nan h = absurd (true≢false (sym h))
negative_of (inf true) h = refl
negative_of (inf false) h = absurd (true≢false (sym h))
negative_of (fin true m e) h = refl
negative_of (fin false m e) h = absurd (omega (arith, ltb-true (m * up e * 1) (0 * 1 * down e) h, zero-mul (down e)))

pub negative : (x : Float) → lt x zero64 ≡ true → neg x ≡ magnitude x
negative x h = negative_of x (rw is_zero at h)

-- where it is a zero
none : (m : ℕ) (e : ℤ) → m * up e * 1 ≡ 0 → m ≡ 0
none zero e h = refl
none (suc m) e h = absurd (omega (arith, h, mul-pos (zero-lt-suc m) (up_pos e), mul-one (suc m * up e)))

and_left : (a b : Bool) → (a && b) ≡ true → a ≡ true
and_left true b h = refl
and_left false b h = absurd (true≢false (sym h))

no_half : (k p : ℕ) → 2 ^ suc k ≡ p → p ≡ 1 → ⊥
no_half k p e h = omega (arith, pow-suc 2 k, pow_pos k)

one_way : (e : ℤ) → up e * down e ≡ 1 → e ≡ pos 0
one_way (pos zero) h = refl
one_way (pos (suc k)) h = absurd (no_half k (2 ^ suc k * 1) (sym (mul-one (2 ^ suc k))) h)
one_way (negsuc k) h = absurd (no_half k (1 * 2 ^ suc k) (sym (one-mul (2 ^ suc k))) h)

zero_of : (s : Bool) (m : ℕ) (e : ℤ) → m ≡ 0 → T (fits binary64 (fin s m e)) → ◌≡◌ {A = Float} (fin false 0 (pos 0)) (fin false m e)
unfolding fits
zero_of s zero e z f = ap (fin false 0) (sym (one_way e (eqb→eq (up e * down e) 1 f)))
zero_of s (suc m) e z f = absurd (omega arith)

nought_of : (x : Float) → T (fits binary64 x) → eq x (fin false 0 (pos 0)) ≡ true → fin false 0 (pos 0) ≡ magnitude x
unfolding eq magnitude
nought_of nan f h = absurd (true≢false (sym h))
nought_of (inf s) f h = absurd (true≢false (sym h))
nought_of (fin s m e) f h = zero_of s m e (none m e (eqb-true (m * up e * 1) (0 * 1 * down e) (and_left _ _ h) ∙ zero-mul (down e))) f

pub nought : (x : Float) → T (fits binary64 x) → eq x zero64 ≡ true → zero64 ≡ magnitude x
nought x f h = is_zero ∙ nought_of x f (rw is_zero at h)

-- and elsewhere
positive_of : (x : Float) → lt x (fin false 0 (pos 0)) ≡ false → eq x (fin false 0 (pos 0)) ≡ false → x ≡ magnitude x
unfolding lt eq magnitude
positive_of nan h k = refl
positive_of (inf true) h k = absurd (true≢false h)
positive_of (inf false) h k = refl
positive_of (fin false m e) h k = refl
positive_of (fin true m e) h k =
    let a = m * up e * 1 in
    let z : 0 * 1 * down e ≡ 0 = zero-mul (down e) in
    let b : a ≡ 0 = omega (arith, ltb-false 0 (a + 0 * 1 * down e) h) in
    absurd (true≢false (sym (ap (λ (w : ℕ). eqb w (0 * 1 * down e) && (false || eqb w 0)) b ∙ ap (λ (w : ℕ). eqb 0 w && (false || eqb 0 0)) z) ∙ k))

pub positive : (x : Float) → lt x zero64 ≡ false → eq x zero64 ≡ false → x ≡ magnitude x
positive x h k = positive_of x (rw is_zero at h) (rw is_zero at k)
