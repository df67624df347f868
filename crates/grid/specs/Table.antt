-- A vector by a rule, and a part of one. Definitions only.
use Rattle.std.specs.Prelude.{[], ◌∷◌, ◌++◌, ℕ, zero, suc, ◌-◌, Float, take, drop}
use Rattle.grid.specs.Real.{Vec}

-- f 0, f 1, .., f (n - 1)
unfoldable pub table : (ℕ → Float) → ℕ → Vec
table f zero = []
table f (suc k) = table f k ++ (f k ∷ [])

-- the vectors f 0, f 1, .., f (n - 1) one behind the other
unfoldable pub rows : (ℕ → Vec) → ℕ → Vec
rows f zero = []
rows f (suc k) = rows f k ++ f k

-- from a to e
abbrev pub part : ℕ → ℕ → Vec → Vec
part a e d = take (e - a) (drop a d)
