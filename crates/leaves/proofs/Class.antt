-- A number equals itself unless it is NaN.
use mathlib.Core.Path.{◌≡◌, refl, sym, ◌∙◌}
use mathlib.Core.Bool.{Bool, true, false, true≢false}
use Prim.Native.Nat.{◌*◌}
use borrow.Author.Tests.{eq-eqb}
use lib.Ieee.{Float, nan, inf, fin, eq, up, down}
use Rattle.leaves.specs.Scan.{class_of}

eq_self : (x : Float) → (x ≡ nan → ⊥) → eq x x ≡ true
unfolding eq
eq_self nan h = absurd (h refl)
eq_self (inf true) h = refl
eq_self (inf false) h = refl
eq_self (fin true m e) h = rw (eq-eqb (m * up e * down e) (m * up e * down e) refl)
eq_self (fin false m e) h = rw (eq-eqb (m * up e * down e) (m * up e * down e) refl)

pub same_class : (x : Float) → eq x x ≡ true → 8 ≡ class_of x
unfolding class_of eq
same_class nan h = absurd (true≢false (sym h))
same_class (inf s) h = refl
same_class (fin s m e) h = refl

pub other_class : (x : Float) → eq x x ≡ false → 10 ≡ class_of x
unfolding class_of
other_class nan h = refl
other_class (inf s) h = absurd (true≢false (sym (eq_self (inf s) (λ e. apart e)) ∙ h))
  where
    apart : inf s ≡ nan → ⊥
    apart e = true≢false (let z : ◌≡◌ {A = Bool} true false = cc in z)
other_class (fin s m d) h = absurd (true≢false (sym (eq_self (fin s m d) (λ e. apart e)) ∙ h))
  where
    apart : fin s m d ≡ nan → ⊥
    apart e = true≢false (let z : ◌≡◌ {A = Bool} true false = cc in z)
