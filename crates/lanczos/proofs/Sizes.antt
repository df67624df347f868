-- What the run is lent, and how the call ends. Laws only.
use Rattle.std.specs.Prelude.{Bool, true, false, cond, ◌∷◌, [], eqb}
use Rattle.answers.specs.Checks.{lengths, lengths_of}
use Rattle.answers.specs.Answers.{done, refused, passed}
use mathlib.Core.Path.{◌≡◌, refl}
use Prim.Native.Nat.{ℕ, ◌+◌, ◌*◌, ◌≤◌}
use native.Mathlib.Omega.{arith}
use Rattle.lanczos.specs.FitsLaws.{Fit}
use Rattle.lanczos.specs.Checks.{size}
use Rattle.lanczos.specs.SizesLaws.{sized}
use Rattle.lanczos.specs.Checks.{work_length}

pub enough : (n k len : ℕ) → Fit n k → len ≡ work_length n k → size n k * n + size n k * size n k ≤ len
unfolding work_length
enough n k len f l = omega (arith, (sized n k (size n k) f.size refl).one, l)

-- the check of four lengths is that of three, and then of the fourth
pub four_lengths : (a w b v c u x y : ℕ) → lengths_of ((a, w) ∷ (b, v) ∷ (c, u) ∷ (x, y) ∷ [])
    ≡ cond (passed (lengths a w b v c u)) (cond (eqb x y) (done 0) (refused 6 3)) (lengths a w b v c u)
unfolding lengths
four_lengths a w b v c u x y = go (eqb a w) refl (eqb b v) refl (eqb c u) refl (eqb x y) refl
  where
    Same : Type 0
    Same = lengths_of ((a, w) ∷ (b, v) ∷ (c, u) ∷ (x, y) ∷ []) ≡ cond (passed (lengths a w b v c u)) (cond (eqb x y) (done 0) (refused 6 3)) (lengths a w b v c u)

    go : (p : Bool) → eqb a w ≡ p → (q : Bool) → eqb b v ≡ q → (r : Bool) → eqb c u ≡ r → (s : Bool) → eqb x y ≡ s → Same
    go true e true f true g true h = rw (e, f, g, h) refl
    go true e true f true g false h = rw (e, f, g, h) refl
    go true e true f false g s h = rw (e, f, g) refl
    go true e false f r g s h = rw (e, f) refl
    go false e q f r g s h = rw e refl
