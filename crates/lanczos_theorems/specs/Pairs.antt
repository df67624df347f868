-- What is said of an answer 0 of `lanczos`: how many pairs there are, and so how many steps were run; the values descend; all behind the pairs is +0.0. Definitions only.
use Rattle.std.specs.Prelude.{◌≡◌, true, ℕ, ◌+◌, ◌*◌, ◌≤◌, ◌<◌, length}
use Rattle.std.specs.Float.Ieee.{le}
use Rattle.grid.specs.Real.{Vec, at, zero64}
use Rattle.answers.specs.Answers.{least}
use Rattle.lanczos_theorems.specs.RunOutcome.{Stepped, found_of}

-- the pairs of an answer 0: how many steps were run, and so how many pairs; the values descend; all behind the pairs is +0.0
pub record Pairs (n k limit edition : ℕ) (a b : Vec) (place : ℕ) (x : Vec) : Type 0 where
  pub run : ℕ
  pub few : run ≤ n
  pub stepped : Stepped n k a b run
  pub place_is : place ≡ least k run
  pub array : x ≡ found_of n k limit edition a b run
  pub long : length x ≡ k + k * n
  pub descends : (i j : ℕ) → i < j → j < place → le (at x j) (at x i) ≡ true
  pub values_rest : (t : ℕ) → place ≤ t → t < k → at x t ≡ zero64
  pub rows_rest : (i : ℕ) → k + place * n ≤ i → i < k + k * n → at x i ≡ zero64
