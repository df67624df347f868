-- How the code works the sums out, what its functions ask of a decomposition, and the lengths of its parts; no promise speaks of these. Laws only.
use Rattle.std.specs.Prelude.{◌≡◌, false, cond, ℕ, ◌+◌, ◌*◌, ◌≤◌, Float, set}
use Rattle.std.proofs.Common.{ap}
use Rattle.std.specs.Float.Ieee.{lt}
use Rattle.grid.specs.Real.{Vec, at, zero64, ◌⊕◌, ◌⊗◌, ◌⊘◌}
use Rattle.grid.specs.Cell.{entry}
use Rattle.grid.specs.Table.{table}
use Rattle.answers.specs.Answers.{least}
use Rattle.answers.specs.AnswersLaws.{least_le, product_le}
use Rattle.solve.specs.Solution.{column_sum, coefficient}

-- the Rust sums only where a value is above the tolerance: elsewhere the sum has no part in c[k], which is the +0.0 that it starts as
pub sum_left_out : (tol sv acc : Float) → lt tol sv ≡ false → coefficient tol sv acc ≡ zero64
unfolding coefficient
sum_left_out tol sv acc h = ap (λ b. cond b (acc ⊘ sv) zero64) h

-- the sums are worked out side by side: row i by v[i] is added to all of them
abbrev pub add_step : ℕ → Vec → ℕ → Float → ℕ → Vec → Vec
add_step cols a i by j acc = set acc j (at acc j ⊕ entry a cols i j ⊗ by)

abbrev pub coefficient_step : Float → Vec → ℕ → Vec → Vec
coefficient_step tol s k c = set c k (coefficient tol (at s k) (at c k))

-- x by the parts of a decomposition
abbrev pub solution_of : ℕ → ℕ → ℕ → Float → Vec → Vec → Vec → Vec → Vec
solution_of m r n tol s u vt b = table (column_sum r n vt (table (λ k. coefficient tol (at s k) (column_sum m r u b k)) r)) n

-- what the checks leave: m and n are small, and the decomposition, of length l, is whole
pub record Sized (m n l : ℕ) : Type 0 where
  pub few : m ≤ 256
  pub narrow : n ≤ 256
  pub whole : l ≡ least m n + m * least m n + least m n * n

-- its parts, for r the smaller of m and n
pub record Split (m n l r : ℕ) : Type 0 where
  pub small : r ≤ 256
  pub u_small : m * r ≤ 65536
  pub vt_small : r * n ≤ 65536
  pub all : l ≡ r + m * r + r * n

pub split : (m n l r : ℕ) → Sized m n l → r ≡ least m n → Split m n l r
split m n l r s e =
    let k : r ≤ 256 = rw e (least_le m n 256 s.few s.narrow) in
    record { small = k; u_small = product_le m r s.few k; vt_small = product_le r n k s.narrow; all = rw e s.whole }
