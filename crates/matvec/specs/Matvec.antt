-- Vectors that stand one behind the other; `matvec` and `scaled_add` of document 000 with the sums of request 12: from index 0, starting at +0.0. Definitions only.
use Rattle.std.specs.Prelude.{◌++◌, ℕ, ◌+◌, ◌-◌, ◌*◌, Float, set, take, drop}
use Rattle.std.specs.Float.Ieee.{neg}
use Rattle.grid.specs.Loop.{upto}
use Rattle.grid.specs.Real.{Vec, zero64, at, ◌⊕◌, ◌⊗◌}
use Rattle.grid.specs.Cell.{entry}
use Rattle.grid.specs.Table.{table, part}
use Rattle.gram_schmidt.specs.Gram.{dot}

-- row j of rows of n numbers each
abbrev pub row_of : ℕ → ℕ → Vec → Vec
row_of n j q = part (j * n) (j * n + n) q

-- d with ys from a to e
abbrev pub replaced : ℕ → ℕ → Vec → Vec → Vec
replaced a e ys d = take a d ++ (ys ++ drop (e - a) (drop a d))

-- `matvec`: row i of the n by n matrix a times v, summed over j from 0 on, starting at +0.0
unfoldable pub product : ℕ → Vec → Vec → Vec
product n a v = table (λ i. upto (λ j acc. acc ⊕ entry a n i j ⊗ at v j) 0 n zero64) n

-- `scaled_add`: w and f times u
unfoldable pub added : ℕ → Float → Vec → Vec → Vec
added n f u w = upto (λ i w. set w i (at w i ⊕ f ⊗ at u i)) 0 n w

-- w less its part along u
unfoldable pub without : ℕ → Vec → Vec → Vec
without n u w = added n (neg (dot n w u)) u w
