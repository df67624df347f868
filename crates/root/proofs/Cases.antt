-- How comparisons tell the cases of a root: a number that is finite and above zero, one that is its own root, and one whose root is the NaN.
use Rattle.std.proofs.Common.{◌≡◌, ℕ, zero, suc, ◌*◌, ◌<◌, Bool, true, false, not, ◌&&◌, ◌||◌, T, eqb, ltb, ℤ, sym, refl, ap, ◌∙◌, mul-pos, zero-mul, true≢false, arith, ne_eqb, lt-ltb}
use Rattle.std.specs.Bool.{beq}
use lib.Ieee.{Float, nan, inf, fin, binary64, up, down, lt, eq, level, is_nan, of_bits}
use lib.Ieee.Fits.{up_pos}
use lib.Ieee.Positive.{positive}
use Rattle.root.specs.Root.{root}

abbrev pub nought : Float
nought = of_bits binary64 0

abbrev pub infinite : Float
infinite = of_bits binary64 0x7ff0_0000_0000_0000

-- a number against zero: the products that are compared
product_pos : (m : ℕ) (e : ℤ) → 0 * down e < suc m * up e * 1
product_pos m e = rw (zero-mul (down e)) (mul-pos (mul-pos (omega arith) (up_pos e)) (omega arith))

above_none : (m : ℕ) (e : ℤ) → ltb (0 * down e) (suc m * up e * 1) ≡ ltb 0 (suc m)
above_none m e = lt-ltb _ _ (product_pos m e) ∙ sym (lt-ltb 0 (suc m) (omega arith))

-- finite and above zero
pub above_zero : (x : Float) → (lt nought x && lt x infinite) ≡ positive x
unfolding of_bits lt
above_zero nan = refl
above_zero (inf true) = refl
above_zero (inf false) = refl
above_zero (fin true m e) = refl
above_zero (fin false zero e) = rw (zero-mul (down e), zero-mul (up e)) refl
above_zero (fin false (suc m) e) = ap (λ (b : Bool). b && true) (above_none m e) ∙ alone (ltb 0 (suc m))
  where
    alone : (b : Bool) → (b && true) ≡ b
    alone true = refl
    alone false = refl

pub no_nan : (x : Float) → T (positive x) → T (not (is_nan x))
unfolding is_nan
no_nan nan p = absurd p
no_nan (inf s) p = tt
no_nan (fin s m e) p = tt

-- its own root
pub kept : (x : Float) → (eq x nought || eq x infinite) ≡ true → x ≡ root x
unfolding of_bits eq root
kept nan h = absurd (true≢false (sym h))
kept (inf true) h = absurd (true≢false (sym h))
kept (inf false) h = refl
kept (fin s zero e) h = refl
kept (fin s (suc m) e) h = absurd (apart (suc m * up e * 1) (0 * down e) (product_pos m e) s h)
  where
    apart : (a b : ℕ) → b < a → (s : Bool) → (level s a false b || false) ≡ true → ⊥
    apart a b l s h = true≢false (sym h ∙ ap (λ (c : Bool). c && (beq s false || eqb a 0) || false) (ne_eqb a b (λ e. omega arith)))

-- neither of the two
pub other : (x : Float) → positive x ≡ false → (eq x nought || eq x infinite) ≡ false → nan ≡ root x
unfolding of_bits eq root
other nan p h = refl
other (inf true) p h = refl
other (inf false) p h = absurd (true≢false h)
other (fin true zero e) p h = absurd (true≢false (rw (zero-mul (up e), zero-mul (down e)) at h))
other (fin false zero e) p h = absurd (true≢false (rw (zero-mul (up e), zero-mul (down e)) at h))
other (fin true (suc m) e) p h = refl
other (fin false (suc m) e) p h = absurd (true≢false (sym (lt-ltb 0 (suc m) (omega arith)) ∙ p))
