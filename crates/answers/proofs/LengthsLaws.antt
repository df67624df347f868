-- The check of any number of lengths is that of two and of three.
use Rattle.std.specs.Prelude.{◌≡◌, Bool, true, false, ℕ, ◌∷◌, [], eqb}
use Rattle.std.proofs.Common.{refl}
use Rattle.answers.specs.Checks.{lengths, lengths_of}

pub two_lengths : (a w b v : ℕ) → lengths_of ((a, w) ∷ (b, v) ∷ []) ≡ lengths a w b v 0 0
unfolding lengths
two_lengths a w b v = go (eqb a w) refl (eqb b v) refl
  where
    go : (p : Bool) → eqb a w ≡ p → (q : Bool) → eqb b v ≡ q → lengths_of ((a, w) ∷ (b, v) ∷ []) ≡ lengths a w b v 0 0
    go true e true f = rw (e, f) refl
    go true e false f = rw (e, f) refl
    go false e q f = rw e refl

pub three_lengths : (a w b v c u : ℕ) → lengths_of ((a, w) ∷ (b, v) ∷ (c, u) ∷ []) ≡ lengths a w b v c u
unfolding lengths
three_lengths a w b v c u = go (eqb a w) refl (eqb b v) refl (eqb c u) refl
  where
    go : (p : Bool) → eqb a w ≡ p → (q : Bool) → eqb b v ≡ q → (r : Bool) → eqb c u ≡ r → lengths_of ((a, w) ∷ (b, v) ∷ (c, u) ∷ []) ≡ lengths a w b v c u
    go true e true f true g = rw (e, f, g) refl
    go true e true f false g = rw (e, f, g) refl
    go true e false f r g = rw (e, f) refl
    go false e q f r g = rw e refl
