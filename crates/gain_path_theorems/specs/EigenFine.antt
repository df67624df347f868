-- What is asked of a call of `symmetric_eigen`, and what is said of two, of a matrix and of 2 ^ k times it: x and y are what they came back with. Definitions only.
-- What is asked follows the run: the reduction (`Tred2Fine`), and from what it leaves the iteration (`Tql2Fine`). What a run does not come to is not asked of.
use Rattle.std.specs.Prelude.{◌≡◌, false, ◌⊎◌, map, ℕ, ◌+◌, ◌*◌, ◌<◌, ℤ, take, drop, is_some}
use Rattle.grid.specs.Real.{Vec, zeros}
use Rattle.eigen_symmetric_eigen.specs.Layout.{columns}
use Rattle.eigen_symmetric_eigen.specs.AfterTred2.{mark0}
use Rattle.eigen_theorems.specs.Outcome.{Outcome, Taken, reduced}
use Rattle.svd_gain_theorems.specs.Scale.{scale}
use Rattle.gain_path_theorems.specs.Tred2Fine.{Tred2Fine}
use Rattle.gain_path_theorems.specs.Tql2Fine.{Tql2Fine}

-- the run of a matrix, `decomposed`: `tred2` of its columns, and `tql2` where mark 0 lets it go on
pub record RunFine (n limit edition : ℕ) (matrix : Vec) : Type 0 where
  pub reduces : Tred2Fine n (columns n matrix, zeros n, zeros n)
  pub iterates : is_some (mark0 n (reduced n matrix).0 (reduced n matrix).1 (reduced n matrix).2) ≡ false → Tql2Fine n limit edition (reduced n matrix)

-- the call: where it passes checks 1, 2, 12, 6 and 7, its run
abbrev pub EigenFine : (n limit edition : ℕ) (matrix work result : Vec) → Type 0
EigenFine n limit edition matrix work result = Taken n limit edition matrix work result → 0 < n → RunFine n limit edition matrix

-- a call that was lent work and result left both as they were, or all +0.0

abbrev pub Untouched : Vec → Vec → Outcome → Type 0
Untouched work result x = (x.1 ≡ work) × (x.2 ≡ result)

abbrev pub Emptied : ℕ → Outcome → Type 0
Emptied n x = (x.1 ≡ zeros n) × (x.2 ≡ zeros (n + n * n))

pub record EigenGained (k : ℤ) (n : ℕ) (work result work' result' : Vec) (x y : Outcome) : Type 0 where
  -- answer, place, index and count agree
  pub numbers : y.0 ≡ x.0
  -- on 0 the values are multiplied by 2 ^ k, and what comes behind them, the vectors, is the same
  pub values : x.0.answer ≡ 0 → take n y.2 ≡ map (scale k) (take n x.2)
  pub vectors : x.0.answer ≡ 0 → drop n y.2 ≡ drop n x.2
  -- on any other answer both are untouched, or both all +0.0
  pub others : (x.0.answer ≡ 0 → ⊥) → (Untouched work result x × Untouched work' result' y) ⊎ (Emptied n x × Emptied n y)
