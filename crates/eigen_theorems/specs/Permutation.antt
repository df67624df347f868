-- Values and columns in another order, one for both; values that ascend. Definitions only.
use Rattle.std.specs.Prelude.{◌≡◌, false, ℕ, ◌*◌, ◌<◌, length}
use Rattle.std.specs.Float.Ieee.{lt}
use Rattle.grid.specs.Real.{Vec, at}
use Rattle.grid.specs.Cell.{at2}

-- π and σ undo one another below n
pub record Permutation (n : ℕ) (π σ : ℕ → ℕ) : Type 0 where
  pub within : (k : ℕ) → k < n → π k < n
  pub within' : (k : ℕ) → k < n → σ k < n
  pub there : (k : ℕ) → k < n → π (σ k) ≡ k
  pub back : (k : ℕ) → k < n → σ (π k) ≡ k

-- y is x with its values and its columns in another order, one for both
pub record Arranged (n : ℕ) (x y : Vec × Vec) : Type 0 where
  pub π : ℕ → ℕ
  pub σ : ℕ → ℕ
  pub permutes : Permutation n π σ
  pub values : (k : ℕ) → k < n → at y.1 k ≡ at x.1 (π k)
  pub vectors : (r k : ℕ) → r < n → k < n → at2 y.0 n r k ≡ at2 x.0 n r (π k)
  pub square : length y.0 ≡ n * n
  pub long : length y.1 ≡ n

-- the values before i are where they belong
unfoldable pub Ascends : ℕ → ℕ → Vec → Type 0
Ascends n i d = (p q : ℕ) → p < q → p < i → q < n → lt (at d q) (at d p) ≡ false
