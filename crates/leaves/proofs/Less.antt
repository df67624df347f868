-- x - x is zero where x is finite, and no number otherwise.
use mathlib.Core.Path.{◌≡◌, refl, sym, ap, ◌∙◌, subst}
use Prim.Native.Nat.{ℕ, zero, suc, ◌+◌, ◌-◌, ◌*◌, ◌<◌}
use native.Mathlib.Nat.{lt_irrefl, zero-mul, mul-pos, zero-lt-suc, le_refl, sub_self}
use mathlib.Core.Bool.{Bool, true, false, not, cond, beq, ◌&&◌}
use borrow.Author.Tests.{le-ltb}
use lib.IntN.{ℤ}
use lib.Dec.{ltb}
use lib.Pow.{pow_pos}
use lib.Ieee.{Float, round, sum, sub, eq, level, nan, inf, fin, binary64, up, down, of_bits}
use lib.Ieee.Fits.{down_pos, up_pos}
use lib.Ieee.Exact.{HasValue, round_exact}
use Rattle.leaves.specs.Leaf.{is_finite}

round_zero : (c : ℕ) → 0 < c → HasValue (round binary64 false 0 c) false 0 c
round_zero c h = round_exact binary64 false 0 c 0 0 h (pow_pos 53) (pow_pos 2098) (sym (zero-mul c))

sum_is : (s : Bool) (a : ℕ) (t : Bool) (b c : ℕ) → sum binary64 s a t b c ≡ cond (beq s t) (round binary64 s (a + b) c) (cond (ltb a b) (round binary64 t (b - a) c) (round binary64 (s && ltb b a) (a - b) c))
unfolding sum
sum_is s a t b c = refl

and_false : (s : Bool) → (s && false) ≡ false
and_false true = refl
and_false false = refl

unlike_not : (s : Bool) → beq s (not s) ≡ false
unlike_not true = refl
unlike_not false = refl

sum_self : (s : Bool) (a c : ℕ) → sum binary64 s a (not s) a c ≡ round binary64 false 0 c
sum_self s a c =
    let z : ltb a a ≡ false = le-ltb a a (le_refl a) in
    sum_is s a (not s) a c
    ∙ ap (λ (x : Bool). cond x (round binary64 s (a + a) c) (cond (ltb a a) (round binary64 (not s) (a - a) c) (round binary64 (s && ltb a a) (a - a) c))) (unlike_not s)
    ∙ ap (λ (x : Bool). cond x (round binary64 (not s) (a - a) c) (round binary64 (s && x) (a - a) c)) z
    ∙ ap (λ (x : Bool). round binary64 x (a - a) c) (and_false s)
    ∙ ap (λ (x : ℕ). round binary64 false x c) (sub_self a)

sub_fin : (s : Bool) (m : ℕ) (e : ℤ) → sub binary64 (fin s m e) (fin s m e) ≡ sum binary64 s (m * up e * down e) (not s) (m * up e * down e) (down e * down e)
unfolding sub
sub_fin s m e = refl

-- a value of no size equals zero
nought_equals : (v : Float) (s : Bool) (c : ℕ) → 0 < c → HasValue v s 0 c → eq v (of_bits binary64 0) ≡ true
unfolding eq of_bits
nought_equals (fin t zero e) s c h p = simp zero-mul (level_zero t)
  where
    level_zero : (t : Bool) → level t 0 false 0 ≡ true
    level_zero true = refl
    level_zero false = refl
nought_equals (fin t (suc m) e) s c h p = absurd (lt_irrefl 0 (subst (λ (x : ℕ). 0 < x) (p.1 ∙ zero-mul (down e)) (mul-pos (mul-pos (zero-lt-suc m) (up_pos e)) h)))
nought_equals nan s c h p = elim p [ ]
nought_equals (inf _) s c h p = elim p [ ]

less_nan : eq (sub binary64 nan nan) (of_bits binary64 0) ≡ is_finite nan
unfolding eq sub is_finite
less_nan = refl

less_inf : (s : Bool) → eq (sub binary64 (inf s) (inf s)) (of_bits binary64 0) ≡ is_finite (inf s)
unfolding eq sub is_finite
less_inf true = refl
less_inf false = refl

fin_finite : (s : Bool) (m : ℕ) (e : ℤ) → true ≡ is_finite (fin s m e)
unfolding is_finite
fin_finite s m e = refl

pub self_less : (x : Float) → eq (sub binary64 x x) (of_bits binary64 0) ≡ is_finite x
self_less nan = less_nan
self_less (inf s) = less_inf s
self_less (fin s m e) =
    let c = down e * down e in
    let h : 0 < c = mul-pos (down_pos e) (down_pos e) in
    ap (λ (v : Float). eq v (of_bits binary64 0)) (sub_fin s m e ∙ sum_self s (m * up e * down e) c) ∙ nought_equals (round binary64 false 0 c) false c h (round_zero c h) ∙ fin_finite s m e
