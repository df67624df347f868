-- What the theorems about `svd` speak of: document 000's own sweeps and its composition of the same steps, the stable descending order. Definitions only.
use Rattle.std.specs.Prelude.{◌≡◌, Bool, true, not, ℕ, ◌<◌, Float}
use Rattle.std.specs.Float.Ieee.{eq, le}
use Rattle.grid.specs.Loop.{rounds}
use Rattle.grid.specs.Real.{Vec}
use Rattle.answers.specs.Answers.{least}
use Rattle.svd_jacobi_svd_tall.specs.Sweep.{sweep}
use Rattle.svd_jacobi_svd_tall.specs.SingularValues.{normalised}
use Rattle.svd_sort_svd_descending.specs.Result.{longest, sorted_out}
use Rattle.svd.specs.Svd.{loaded}

-- ---- document 000's own run: no mark, and no limit but its 60 sweeps

-- document 000's sweeps: `for _sweep in 0..60 { let mut changed = false; ..; if !changed { break; } }`
abbrev pub plain_sweep : ℕ → ℕ → Bool × Vec → Bool × Vec
plain_sweep rows cols x = sweep rows cols x.1

abbrev pub unchanged : Bool × Vec → Bool
unchanged x = not x.0

unfoldable pub plain_sweeps : ℕ → ℕ → Vec → Bool × Vec
plain_sweeps rows cols w = rounds (plain_sweep rows cols) unchanged 60 (true, w)

-- and its values, whatever the numbers are
unfoldable pub plain : ℕ → ℕ → Vec → Vec
plain rows cols w = normalised rows cols (plain_sweeps rows cols w).1

-- ---- no check, no mark and no limit but the 60 sweeps

-- jacobi_svd_tall of the matrix, or of its transpose where m < n: both factors and the values
unfoldable pub plain_work : ℕ → ℕ → Vec → Vec
plain_work m n matrix = plain (longest m n) (least m n) (loaded m n matrix)

-- sorted, and laid out as a result
unfoldable pub plain_svd : ℕ → ℕ → ℕ → ℕ → Vec → Vec
plain_svd m n want_u want_vt matrix = sorted_out m n want_u want_vt (plain_work m n matrix)

-- ---- T7

-- o names a column for each place below r so that the values descend and equal values keep their order
pub record Sorted (s : ℕ → Float) (r : ℕ) (o : ℕ → ℕ) : Type 0 where
  -- every column is there, and once
  pub within : (p : ℕ) → p < r → o p < r
  pub there : (k : ℕ) → k < r → (p : ℕ) × (p < r) × (o p ≡ k)
  pub once : (p q : ℕ) → p < r → q < r → o p ≡ o q → p ≡ q
  pub descends : (p q : ℕ) → p < q → q < r → le (s (o q)) (s (o p)) ≡ true
  pub stable : (p q : ℕ) → p < q → q < r → eq (s (o p)) (s (o q)) ≡ true → o p < o q
