-- How the code works a row of the pseudo-inverse out; no promise speaks of these. Laws only.
use Rattle.std.specs.Prelude.{ℕ, Float}
use Rattle.grid.specs.Loop.{upto}
use Rattle.grid.specs.Real.{Vec, zero64, at, ◌⊕◌, ◌⊗◌}
use Rattle.grid.specs.Cell.{entry}
use Rattle.solve.specs.PseudoInverse.{inverse}

-- row j of the pseudo-inverse with what is by V^T worked out once: w[k] = v_t[k, j] * sinv[k]
abbrev pub product : ℕ → Float → Vec → Vec → ℕ → ℕ → Float
product n tol s vt j k = entry vt n k j ⊗ inverse tol (at s k)

abbrev pub dot_step : ℕ → Vec → Vec → ℕ → ℕ → Float → Float
dot_step r w u i k acc = acc ⊕ at w k ⊗ entry u r i k

unfoldable pub dot : ℕ → Vec → Vec → ℕ → Float
dot r w u i = upto (dot_step r w u i) 0 r zero64
