-- Modified Gram-Schmidt with one pass more for what the first left, operation for operation. Definitions only.
-- q has m rows and k columns, row by row; a column that is worked on is a vector of its own.
use Rattle.std.specs.Prelude.{ℕ, Float, set}
use Rattle.grid.specs.Loop.{upto}
use Rattle.grid.specs.Real.{Vec, zero64, at, ◌⊕◌, ◌⊖◌, ◌⊗◌}
use Rattle.grid.specs.Cell.{entry}
use Rattle.grid.specs.Table.{table}
use Rattle.root.specs.Root.{root}

-- column j of q
abbrev pub column_of : ℕ → ℕ → Vec → ℕ → Vec
column_of m k q j = table (λ row. entry q k row j) m

-- b times c, summed from row 0 on, starting at +0.0
unfoldable pub dot : ℕ → Vec → Vec → Float
dot m b c = upto (λ row acc. acc ⊕ at b row ⊗ at c row) 0 m zero64

-- c less proj times b, row by row
unfoldable pub lessened : ℕ → Float → Vec → Vec → Vec
lessened m proj b c = upto (λ row c. set c row (at c row ⊖ proj ⊗ at b row)) 0 m c

-- column c against the columns before j
unfoldable pub less_columns : ℕ → ℕ → ℕ → Vec → Vec → Vec
less_columns m k j q c = upto (λ i c. lessened m (dot m (column_of m k q i) c) (column_of m k q i) c) 0 j c

-- twice: the second takes what the first left
unfoldable pub less_columns_twice : ℕ → ℕ → ℕ → Vec → Vec → Vec
less_columns_twice m k j q c = upto (λ p. less_columns m k j q) 0 2 c

-- the root of c times c
unfoldable pub norm : ℕ → Vec → Float
norm m c = root (dot m c c)
