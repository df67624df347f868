-- What the theorem says of two calls of `svd`, of a matrix and of 2 ^ k times it: x and y are what they came back with. Definitions only.
use Rattle.std.specs.Prelude.{◌≡◌, map, ℕ, ℤ, length, take, drop}
use Rattle.grid.specs.Real.{Vec, zeros}
use Rattle.answers.specs.Early.{Early}
use Rattle.svd_theorems.specs.Outcome.{Outcome}
use Rattle.svd_gain_theorems.specs.Scale.{scale}

-- what a call leaves in the arrays that it was lent: as they were on 1 to 6; else work is all +0.0, and so is the result, but on 0
pub record Left (work result : Vec) (x : Outcome) : Type 0 where
  pub untouched : Early x.0 → (x.1 ≡ work) × (x.2 ≡ result)
  pub works : (Early x.0 → ⊥) → x.1 ≡ zeros (length work)
  pub cleared : (Early x.0 → ⊥) → (x.0.answer ≡ 0 → ⊥) → x.2 ≡ zeros (length result)

-- for r values
pub record Gained (k : ℤ) (r : ℕ) (work result work' result' : Vec) (x y : Outcome) : Type 0 where
  -- answer, place, index and count agree
  pub numbers : y.0 ≡ x.0
  -- on 0 the values are multiplied by 2 ^ k, and what comes behind them, U and V^T, is the same
  pub values : x.0.answer ≡ 0 → take r y.2 ≡ map (scale k) (take r x.2)
  pub factors : x.0.answer ≡ 0 → drop r y.2 ≡ drop r x.2
  -- on any other answer both results are all +0.0, or both are untouched
  pub first : Left work result x
  pub second : Left work' result' y
