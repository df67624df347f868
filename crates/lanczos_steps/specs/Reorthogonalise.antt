-- A vector against those before it, twice: the vectors q stand row by row, n numbers each. Definitions only.
use Rattle.std.specs.Prelude.{ℕ}
use Rattle.grid.specs.Loop.{upto}
use Rattle.grid.specs.Real.{Vec}
use Rattle.matvec.specs.Matvec.{row_of, without}

-- w against the vectors before step j, and against v, twice: the second round takes what the first left
unfoldable pub twice : ℕ → ℕ → Vec → Vec → Vec → Vec
twice n j q v w = upto (λ p w. without n v (upto (λ i. without n (row_of n i q)) 0 j w)) 0 2 w
