-- Steps of the loops of `SingularValues` by name, as laws cite them. Definitions only.
use Rattle.std.specs.Prelude.{ℕ, ◌+◌, Float, set}
use Rattle.grid.specs.Real.{Vec, at, ◌⊕◌, ◌⊗◌, ◌⊘◌}

-- the sum, and the square of number i of the column at a
abbrev pub norm_step : ℕ → Vec → ℕ → Float → Float
norm_step a w i x = x ⊕ at w (a + i) ⊗ at w (a + i)

-- number i of the column at a over norm
abbrev pub divide_step : ℕ → Float → ℕ → Vec → Vec
divide_step a norm i w = set w (a + i) (at w (a + i) ⊘ norm)
