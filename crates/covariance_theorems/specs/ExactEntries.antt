-- What is said of an outcome of `covariance`: a float that is a whole number, and a refusal 26 that points at its entry. Definitions only.
use Rattle.std.specs.Prelude.{◌≡◌, true, false, List, ◌⊎◌, ℕ, suc, ◌*◌, ◌/◌, ◌%◌, ◌≤◌, ◌<◌, ℤ, pos, negsuc, nat_abs, Float}
use Rattle.std.specs.Float.Ieee.Exact.{HasValue}
use Rattle.answers.specs.Early.{Early}
use Rattle.answers.specs.declared.Answer.{Answer}
use Rattle.covariance.specs.MatrixEntries.{whole, cell_at}
use Rattle.covariance.specs.Over53.{over}

-- the float x is finite and is z, sign and magnitude
abbrev pub Stands : Float → ℤ → Type 0
Stands x (pos m) = HasValue x false m 1
Stands x (negsuc m) = HasValue x true (suc m) 1

-- the float x is the entry of bands x and y, which is at most 2^53 in magnitude
pub record Exactly (samples : List ℤ) (N i j : ℕ) (x : Float) : Type 0 where
  pub small : nat_abs (whole samples N i j) ≤ 0x20_0000_0000_0000
  pub stands : Stands x (whole samples N i j)

-- entry k is the first over 2^53, and stands on or above the diagonal
pub record FirstOver (n N : ℕ) (samples : List ℤ) (k : ℕ) : Type 0 where
  pub within : k < n * n
  pub seen : over (cell_at n N samples k) ≡ true
  pub before : (j : ℕ) → j < k → over (cell_at n N samples j) ≡ false
  pub above : k / n ≤ k % n

-- a refusal that leaves the matrix as it was: 1, 25 or 6
abbrev pub Untouched : Answer → Type 0
Untouched x = Early x ⊎ (x.answer ≡ 25)
