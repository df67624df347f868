-- The products of columns that are turned together. Laws only.
-- `dots` is what the code does on the way; no public promise cites it.
use Rattle.std.specs.Prelude.{ℕ, ◌+◌}
use Rattle.grid.specs.Real.{Vec}
use Rattle.grid.specs.Table.{table}
use Rattle.eigen_tred2_definition.specs.Tred2.{column_dot}

-- of k columns from j on
unfoldable pub dots : ℕ → ℕ → ℕ → Vec → ℕ → Vec
dots n m j v k = table (λ c. column_dot n m (j + c) v) k
