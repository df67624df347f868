-- Steps of the loops of `Tql2` by name, as laws cite them. Definitions only.
use Rattle.std.specs.Prelude.{ℕ, ◌-◌, set}
use Rattle.grid.specs.Real.{Vec, at}

-- the subdiagonal stands one place lower from here on, and its last is 0
abbrev pub up_step : ℕ → Vec → Vec
up_step i e = set e (i - 1) (at e i)
