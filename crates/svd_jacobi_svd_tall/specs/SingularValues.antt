-- The values of `jacobi_svd_tall` of document 000, operation for operation. Definitions only.
use Rattle.std.specs.Prelude.{cond, ℕ, ◌+◌, Float, set}
use Rattle.std.specs.Float.Ieee.{lt}
use Rattle.grid.specs.Loop.{upto}
use Rattle.grid.specs.Real.{Vec, at, zero64, ◌⊕◌, ◌⊗◌, ◌⊘◌}
use Rattle.root.specs.Root.{root}
use Rattle.svd_jacobi_svd_tall.specs.Sweep.{u_at, value_at}

-- the squares of the column at a, summed from its first number on, starting at +0.0
unfoldable pub norm_sq : ℕ → ℕ → Vec → Float
norm_sq a rows w = upto (λ i x. x ⊕ at w (a + i) ⊗ at w (a + i)) 0 rows zero64

-- the column at a over norm, number by number
unfoldable pub divided : ℕ → ℕ → Float → Vec → Vec
divided a rows norm w = upto (λ i w. set w (a + i) (at w (a + i) ⊘ norm)) 0 rows w

-- column j: its norm is the value, and it is divided unless that is 0
unfoldable pub normal_step : ℕ → ℕ → ℕ → Vec → Vec
normal_step rows cols j w =
    let norm = root (norm_sq (u_at rows j) rows w) in
    let v = set w (value_at rows cols j) norm in
    cond (lt zero64 norm) (divided (u_at rows j) rows norm v) v

-- every column: j = 0 .. cols - 1
unfoldable pub normalised : ℕ → ℕ → Vec → Vec
normalised rows cols w = upto (normal_step rows cols) 0 cols w
