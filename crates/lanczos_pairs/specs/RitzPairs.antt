-- The Ritz pairs of document 000, from m vectors in q (n numbers each) and the values and vectors of the small problem. Definitions only.
use Rattle.std.specs.Prelude.{cond, ℕ, ◌+◌, ◌*◌, set}
use Rattle.std.specs.Float.Ieee.{lt}
use Rattle.grid.specs.Loop.{upto}
use Rattle.grid.specs.Real.{Vec, epsilon, zeros, at}
use Rattle.grid.specs.Cell.{entry}
use Rattle.gram_schmidt.specs.Gram.{norm}
use Rattle.gram_schmidt.specs.Unit.{over}
use Rattle.matvec.specs.Matvec.{row_of, replaced, added}

-- the vector of the small problem's place c: summed over j ascending, from +0.0 throughout
unfoldable pub ritz : ℕ → ℕ → Vec → Vec → ℕ → Vec
ritz n m q vecs c = upto (λ j x. added n (entry vecs m j c) (row_of n j q) x) 0 m (zeros n)

-- over its norm, where that is above EPSILON
unfoldable pub levelled : ℕ → Vec → Vec
levelled n c = cond (lt epsilon (norm n c)) (over n (norm n c) c) c

-- value t, and row t behind the k values
unfoldable pub pair : ℕ → ℕ → ℕ → Vec → Vec → Vec → ℕ → ℕ → Vec → Vec
pair n k m q vals vecs c t x = replaced (k + t * n) (k + t * n + n) (levelled n (ritz n m q vecs c)) (set x t (at vals c))

-- the leading pairs, so many as are found: place o t of the small problem comes to place t
unfoldable pub pairs : ℕ → ℕ → ℕ → ℕ → Vec → Vec → Vec → (ℕ → ℕ) → Vec → Vec
pairs n k m found q vals vecs o x = upto (λ t x. pair n k m q vals vecs (o t) t x) 0 found x
