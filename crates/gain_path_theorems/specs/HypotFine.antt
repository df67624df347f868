-- What is asked of a hypot that is worked out, in either edition: it is zero, or finite and above 2 ^ -1022, and zero only where both sides are. Definitions only.
use Rattle.std.specs.Prelude.{◌≡◌, true, ℕ, T, Float}
use Rattle.hypot.specs.Edition.{pythag}
use Rattle.svd_gain_theorems.specs.Scale.{is_zero, fine}

pub record HypotFine (edition : ℕ) (x y : Float) : Type 0 where
  pub good : T (fine (pythag edition x y))
  pub zeros : is_zero (pythag edition x y) ≡ true → (is_zero x ≡ true) × (is_zero y ≡ true)
