-- `Svd::solve`, operation for operation. Definitions only.
-- A decomposition is r values, r the smaller of m and n, then U row by row (m by r), then V^T row by row (r by n).
use Rattle.std.specs.Prelude.{cond, ℕ, ◌+◌, ◌*◌, Float, length, take}
use Rattle.std.specs.Float.Ieee.{lt}
use Rattle.grid.specs.Loop.{upto}
use Rattle.grid.specs.Real.{Vec, zero64, at, ◌⊕◌, ◌⊗◌, ◌⊘◌}
use Rattle.grid.specs.Cell.{entry}
use Rattle.grid.specs.Table.{table, part}
use Rattle.answers.specs.Answers.{least}

-- U, m by r, behind the r values
abbrev pub u_of : ℕ → ℕ → Vec → Vec
u_of m r d = part r (r + m * r) d

-- V^T, r by n, behind U
abbrev pub vt_of : ℕ → ℕ → Vec → Vec
vt_of m r d = part (r + m * r) (length d) d

-- column j of a, which has that many columns, by v: summed from row 0 on, starting at +0.0
unfoldable pub column_sum : ℕ → ℕ → Vec → Vec → ℕ → Float
column_sum rows cols a v j = upto (λ i acc. acc ⊕ entry a cols i j ⊗ at v i) 0 rows zero64

-- c[k] for the value sv: one that is not above the tolerance counts as zero
unfoldable pub coefficient : Float → Float → Float → Float
coefficient tol sv acc = cond (lt tol sv) (acc ⊘ sv) zero64

-- x = V * c, where c = sigma^+ * U^T * b
unfoldable pub solution : ℕ → ℕ → Float → Vec → Vec → Vec
solution m n tol d b =
    let r = least m n in
    let c = table (λ k. coefficient tol (at (take r d) k) (column_sum m r (u_of m r d) b k)) r in
    table (column_sum r n (vt_of m r d) c) n
