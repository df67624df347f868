-- How the matrix of `symmetric_eigen` comes in. Definitions only.
use Rattle.std.specs.Prelude.{ℕ, ◌*◌, ◌/◌, ◌%◌}
use Rattle.grid.specs.Real.{Vec}
use Rattle.grid.specs.Cell.{entry}
use Rattle.grid.specs.Table.{table}

-- the matrix a comes in row by row and is worked on column by column: number k there is in row k % n and column k / n
unfoldable pub columns : ℕ → Vec → Vec
columns n a = table (λ k. entry a n (k % n) (k / n)) (n * n)
