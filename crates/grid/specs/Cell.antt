-- Where a cell of a matrix stands: column by column while a routine works on the matrix, row by row in what callers lend. Definitions only.
use Rattle.std.specs.Prelude.{ℕ, ◌+◌, ◌*◌, Float, set}
use Rattle.grid.specs.Real.{Vec, at}

-- row i, column j of a worked-on matrix of that many rows
abbrev pub at2 : Vec → ℕ → ℕ → ℕ → Float
at2 v rows i j = at v (j * rows + i)

-- x at row i, column j of a worked-on matrix of that many rows
abbrev pub put2 : Vec → ℕ → ℕ → ℕ → Float → Vec
put2 v rows i j x = set v (j * rows + i) x

-- row i, column j of a caller's matrix of that many columns
abbrev pub entry : Vec → ℕ → ℕ → ℕ → Float
entry a cols i j = at a (i * cols + j)

-- x at row i, column j of a caller's matrix of that many columns
abbrev pub put_entry : Vec → ℕ → ℕ → ℕ → Float → Vec
put_entry a cols i j x = set a (i * cols + j) x
