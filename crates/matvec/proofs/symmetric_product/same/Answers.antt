use mathlib.Core.Path.{◌≡◌, ◌∙◌, refl, sym, ap, subst}
use mathlib.Core.Bool.{true, true≢false}
use lib.Dec.{T}
use lib.Ieee.{Float, nan, inf, fin, is_nan, binary64, fits, of_bits, to_bits}
use lib.Ieee.Bits.{of_bits-to_bits}
use borrow.Author.Tests.{eqb-true, eq-eqb}
use Rattle.matvec.proofs.symmetric_product.same.Goals as goal

-- there is one NaN
one_nan : (x : Float) → is_nan x ≡ true → x ≡ nan
unfolding is_nan
one_nan nan h = refl
one_nan (inf s) h = absurd (true≢false (sym h))
one_nan (fin s m e) h = absurd (true≢false (sym h))

from_bits : (x y : Float) → T (fits binary64 x) → T (fits binary64 y) → to_bits binary64 x ≡ to_bits binary64 y → x ≡ y
from_bits x y f g e = sym (of_bits-to_bits binary64 x f) ∙ ap (of_bits binary64) e ∙ of_bits-to_bits binary64 y g

pub returns-then-is_nan-3 : goal.returns-then-is_nan-3
returns-then-is_nan-3 c =
    let first : is_nan c.args.x ≡ true = sym c.is_nan-then-is_nan.ensures.value ∙ c.if-is_nan-3.true in
    let second : c.is_nan-then-is_nan-3.result ≡ is_nan c.args.y = c.is_nan-then-is_nan-3.ensures.value in
    (λ e. one_nan c.args.x first ∙ sym (one_nan c.args.y (sym second ∙ e)), λ e. second ∙ ap is_nan (sym e) ∙ first)

pub returns : goal.returns
returns c = (λ e. from_bits c.args.x c.args.y (subst T (sym c.well_formed.0.1) tt) (subst T (sym c.well_formed.1.0.1) tt) (eqb-true _ _ e), λ e. eq-eqb _ _ (ap (to_bits binary64) e))
