-- The norms that the index of `qr_q` counts: one for each column, in turn. Definitions only.
use Rattle.std.specs.Prelude.{◌≡◌, ℕ, Float}
use Rattle.grid.specs.Real.{Vec}
use Rattle.leaves.specs.Finite.{First}
use Rattle.answers.specs.declared.Answer.{Answer}
use Rattle.gram_schmidt.specs.Gram.{column_of, less_columns_twice, norm}
use Rattle.qr_q.specs.QrQ.{columns}

-- the norm of column j, after those before it
abbrev pub norm_at : ℕ → ℕ → Vec → ℕ → Float
norm_at m k a j =
    let q = (columns m k a j).1 in
    norm m (less_columns_twice m k j q (column_of m k q j))

-- the norm of column `index` is the first that is not finite, and of the answer's class; the place is the column too
pub record Points (m k : ℕ) (a : Vec) (x : Answer) : Type 0 where
  pub first : First (norm_at m k a) k x.index x.answer
  pub column : x.place ≡ x.index
