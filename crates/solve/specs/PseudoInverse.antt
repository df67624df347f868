-- `Svd::pseudo_inverse`, operation for operation: A^+ = V * sigma^+ * U^T. Definitions only.
use Rattle.std.specs.Prelude.{cond, ℕ, Float, take}
use Rattle.std.specs.Float.Ieee.{lt}
use Rattle.grid.specs.Loop.{upto}
use Rattle.grid.specs.Real.{Vec, zero64, one64, at, ◌⊕◌, ◌⊗◌, ◌⊘◌}
use Rattle.grid.specs.Cell.{entry}
use Rattle.grid.specs.Table.{table, rows}
use Rattle.answers.specs.Answers.{least}
use Rattle.solve.specs.Solution.{u_of, vt_of}

-- sinv[k] for the value sv
unfoldable pub inverse : Float → Float → Float
inverse tol sv = cond (lt tol sv) (one64 ⊘ sv) zero64

-- A^+[j, i]: V^T by the inverse value first, then by U
unfoldable pub pinv_sum : ℕ → ℕ → Float → Vec → Vec → Vec → ℕ → ℕ → Float
pinv_sum r n tol s u vt j i = upto (λ k acc. acc ⊕ entry vt n k j ⊗ inverse tol (at s k) ⊗ entry u r i k) 0 r zero64

-- A^+ of the decomposition d, row by row
unfoldable pub inverted : ℕ → ℕ → Float → Vec → Vec
inverted m n tol d =
    let r = least m n in
    rows (λ j. table (pinv_sum r n tol (take r d) (u_of m r d) (vt_of m r d) j) m) n
