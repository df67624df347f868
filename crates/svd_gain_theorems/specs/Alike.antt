-- Two vectors whose numbers differ by powers of two: at index i by 2 ^ κ i. Past the end both have a NaN, so this is said of every index. Definitions only.
use Rattle.std.specs.Prelude.{◌≡◌, cond, ℕ, ltb, length}
use Rattle.grid.specs.Real.{Vec, at}
use Rattle.svd_gain_theorems.specs.Scale.{Scaled}

pub record Alike (κ : ℕ → ℕ) (w v : Vec) : Type 0 where
  pub long : length v ≡ length w
  pub each : (i : ℕ) → Scaled (κ i) (at w i) (at v i)

-- by 2 ^ k at the indices below n, and the same from n on
abbrev pub under : ℕ → ℕ → ℕ → ℕ
under k n i = cond (ltb i n) k 0
