-- Samples times 2 ^ k, and what is said of the two calls of `covariance`, of samples and of 2 ^ k times them: x and y are what they came back with. Definitions only.
use Rattle.std.specs.Prelude.{◌≡◌, List, map, ℕ, ◌+◌, ◌^◌, ◌≤◌, ℤ, pos, ◌*ℤ◌}
use Rattle.grid.specs.Real.{Vec}
use Rattle.answers.specs.declared.Answer.{Answer}
use Rattle.covariance_theorems.specs.ExactEntries.{Untouched}
use Rattle.svd_gain_theorems.specs.Scale.{scale}

-- each sample times 2 ^ k
abbrev pub louder : ℕ → List ℤ → List ℤ
louder k samples = map (λ z. pos (2 ^ k) *ℤ z) samples

pub record CovarianceGained (k : ℕ) (x y : Answer × Vec) : Type 0 where
  -- where the second is done so is the first, and each number of the second matrix is 4 ^ k times that of the first
  pub entries : y.0.answer ≡ 0 → (x.0.answer ≡ 0) × (y.1 ≡ map (scale (pos (k + k))) x.1)
  -- 26 of the first is 26 of the second, at the same place or before it
  pub over : x.0.answer ≡ 26 → (y.0.answer ≡ 26) × (y.0.place ≤ x.0.place)
  -- 1, 25 and 6 agree
  pub refused : Untouched x.0 → y.0 ≡ x.0
