-- Steps of the code's loops by name, as laws cite them. Definitions only.
use Rattle.std.specs.Prelude.{ℕ}
use Rattle.grid.specs.Loop.{upto}
use Rattle.grid.specs.Real.{Vec}
use Rattle.grid.specs.Cell.{at2, put2, entry}

-- entry (i, j) of a as cell (i, j) of v
abbrev pub copy_row_step : ℕ → Vec → ℕ → ℕ → Vec → Vec
copy_row_step n a i j v = put2 v n i j (entry a n i j)

-- row i of a into v
unfoldable pub copy_row : ℕ → Vec → ℕ → Vec → Vec
copy_row n a i v = upto (copy_row_step n a i) 0 n v

-- cells (i, j) and (j, i) of v change places
abbrev pub transpose_step : ℕ → ℕ → ℕ → Vec → Vec
transpose_step n i j v =
    let x = at2 v n i j in
    let y = at2 v n j i in
    put2 (put2 v n i j y) n j i x

-- the same for each j below i
unfoldable pub transpose_row : ℕ → ℕ → Vec → Vec
transpose_row n i v = upto (transpose_step n i) 0 i v
