-- "At most" goes on from one float to the next, infinities and all. Laws only.
use mathlib.Core.Path.{◌≡◌, refl, sym, subst}
use mathlib.Core.Bool.{Bool, true, false, ◌||◌}
use Prim.Native.Nat.{ℕ}
use lib.Dec.{T}
use lib.IntN.{ℤ}
use lib.Ieee.{Float, nan, inf, fin, lt, eq, le}
use Rattle.leaves.specs.Compare.{lt_chain, lt_turn, not_of_eq, le_of_not}
use Rattle.leaves.specs.Leaf.{is_finite}

pub is_true : (b : Bool) → T b → b ≡ true
is_true true t = refl
is_true false t = absurd t

pub of_true : {b : Bool} → b ≡ true → T b
of_true e = subst T (sym e) tt

pub le_not : (x y : Float) → T (le x y) → lt y x ≡ false
unfolding le
le_not x y t = go (lt x y) refl
  where
    go : (b : Bool) → lt x y ≡ b → lt y x ≡ false
    go true e = lt_turn x y e
    go false e = not_of_eq x y (is_true (eq x y) (subst (λ (b : Bool). T (b || eq x y)) e t))

-- the ends
least : (y z : Float) → T (le y z) → T (le (inf true) z)
unfolding le lt eq
least nan z q = absurd q
least (inf s) nan q = absurd q
least (inf s) (inf true) q = tt
least (inf s) (inf false) q = tt
least (inf s) (fin u k i) q = tt
least (fin t n d) nan q = absurd q
least (fin t n d) (inf true) q = tt
least (fin t n d) (inf false) q = tt
least (fin t n d) (fin u k i) q = tt

most : (s : Bool) (m : ℕ) (e : ℤ) (z : Float) → T (le (inf false) z) → T (le (fin s m e) z)
unfolding le lt eq
most s m e nan q = absurd q
most s m e (inf true) q = absurd q
most s m e (inf false) q = tt
most s m e (fin u k i) q = absurd q

pub le_through : (x y z : Float) → T (le x y) → T (le y z) → T (le x z)
unfolding le lt eq is_finite
le_through nan y z p q = absurd p
le_through (inf true) y z p q = least y z q
le_through (inf false) nan z p q = absurd p
le_through (inf false) (inf true) z p q = absurd p
le_through (inf false) (inf false) z p q = q
le_through (inf false) (fin t n d) z p q = absurd p
le_through (fin s m e) nan z p q = absurd p
le_through (fin s m e) (inf true) z p q = absurd p
le_through (fin s m e) (inf false) z p q = most s m e z q
le_through (fin s m e) (fin t n d) nan p q = absurd q
le_through (fin s m e) (fin t n d) (inf u) p q = q
le_through (fin s m e) (fin t n d) (fin u k i) p q =
    let x = fin s m e in
    let y = fin t n d in
    let z = fin u k i in
    of_true (le_of_not z x refl refl (lt_chain z y x refl refl refl (le_not y z q) (le_not x y p)))
