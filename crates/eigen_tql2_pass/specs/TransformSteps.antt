-- Steps of the loops of `Transform` by name, as laws cite them. Definitions only.
use Rattle.std.specs.Prelude.{ℕ, ◌+◌, Float, set}
use Rattle.grid.specs.Real.{Vec, at, ◌⊕◌, ◌⊖◌, ◌⊗◌}
use Rattle.grid.specs.Cell.{at2, put2}

-- d less h, from l + 2 on
abbrev pub less_step : Float → ℕ → Vec → Vec
less_step h i d = set d i (at d i ⊖ h)

-- columns i and i + 1 of v, turned by c and s
abbrev pub rot_step : ℕ → ℕ → Float → Float → ℕ → Vec → Vec
rot_step n i c s k v =
    let g = at2 v n k i in
    let h = at2 v n k (i + 1) in
    put2 (put2 v n k (i + 1) (s ⊗ g ⊕ c ⊗ h)) n k i (c ⊗ g ⊖ s ⊗ h)
