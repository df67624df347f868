-- The result of document 000's `svd`: values, U and V^T out of the work array, in their order. Definitions only.
use Rattle.std.specs.Prelude.{cond, ◌++◌, ℕ, ◌+◌, ◌*◌, ltb, leb, Float}
use Rattle.grid.specs.Real.{Vec, at}
use Rattle.grid.specs.Table.{table, rows}
use Rattle.answers.specs.Answers.{least, present}
use Rattle.svd_sort_svd_descending.specs.Order.{order}

-- L, the larger of m and n
unfoldable pub longest : ℕ → ℕ → ℕ
longest m n = cond (ltb m n) n m

-- L·r + r·r + r
unfoldable pub work_length : ℕ → ℕ → ℕ
work_length m n = longest m n * least m n + least m n * least m n + least m n

-- value p of what was worked out: the values stand last in w
abbrev pub value_of : ℕ → ℕ → Vec → ℕ → Float
value_of m n w p = at w (longest m n * least m n + least m n * least m n + p)

-- cell (i, p) of the factor of m rows: the factor with L rows stands first in w, column by column, the other behind it
abbrev pub u_factor : ℕ → ℕ → Vec → ℕ → ℕ → Float
u_factor m n w i p = at w (cond (ltb m n) (longest m n * least m n) 0 + p * m + i)

-- cell (j, p) of the factor of n rows
abbrev pub v_factor : ℕ → ℕ → Vec → ℕ → ℕ → Float
v_factor m n w j p = at w (cond (leb n m) (longest m n * least m n) 0 + p * n + j)

-- the column that comes to place k
abbrev pub order_of : ℕ → ℕ → Vec → ℕ → ℕ
order_of m n w k = order (value_of m n w) (least m n) k

-- the r values, then U row by row if wanted, then V^T row by row if wanted
unfoldable pub sorted_out : ℕ → ℕ → ℕ → ℕ → Vec → Vec
sorted_out m n want_u want_vt w =
    table (λ k. value_of m n w (order_of m n w k)) (least m n)
    ++ (rows (λ i. table (λ k. u_factor m n w i (order_of m n w k)) (least m n)) (present want_u m)
    ++ rows (λ k. table (λ j. v_factor m n w j (order_of m n w k)) n) (present want_vt (least m n)))
