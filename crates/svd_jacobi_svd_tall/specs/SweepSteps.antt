-- Steps of the loops of `Sweep` and parts of `rotation_of` by name, as laws cite them. Definitions only.
use Rattle.std.specs.Prelude.{ℕ, ◌+◌, Float, set}
use Rattle.grid.specs.Real.{Vec, at, one64, two64, ◌⊕◌, ◌⊖◌, ◌⊗◌, ◌⊘◌}
use Rattle.leaves.specs.Leaf.{magnitude}
use Rattle.svd_jacobi_svd_tall.specs.declared.sweep.Sums.{Sums}
use Rattle.svd_jacobi_svd_tall.specs.declared.sweep.Rotation.{Rotation}
use Rattle.svd_jacobi_svd_tall.specs.Sweep.{sign_of}

-- alpha, beta and gamma with one number more of each column
abbrev pub with_row : Float → Float → Sums → Sums
with_row up uq x = record { alpha = x.alpha ⊕ up ⊗ up; beta = x.beta ⊕ uq ⊗ uq; gamma = x.gamma ⊕ up ⊗ uq }

-- alpha, beta and gamma of the columns at a and b
abbrev pub gram_step : ℕ → ℕ → Vec → ℕ → Sums → Sums
gram_step a b w i x =
    let up = at w (a + i) in
    let uq = at w (b + i) in
    record { alpha = x.alpha ⊕ up ⊗ up; beta = x.beta ⊕ uq ⊗ uq; gamma = x.gamma ⊕ up ⊗ uq }

-- the parts of `rotation_of`: zeta, the tangent by the root of 1 + zeta * zeta, and the rotation by that of 1 + t * t
abbrev pub zeta_of : Sums → Float
zeta_of x = (x.beta ⊖ x.alpha) ⊘ (two64 ⊗ x.gamma)

abbrev pub tangent : Float → Float → Float
tangent zeta r = sign_of zeta ⊘ (magnitude zeta ⊕ r)

abbrev pub rotation_by : Float → Float → Rotation
rotation_by t r =
    let c = one64 ⊘ r in
    record { c = c; s = c ⊗ t; t = t }

-- the columns at a and b, rotated
abbrev pub rotate_step : ℕ → ℕ → Rotation → ℕ → Vec → Vec
rotate_step a b rot i w =
    let up = at w (a + i) in
    let uq = at w (b + i) in
    set (set w (a + i) (rot.c ⊗ up ⊖ rot.s ⊗ uq)) (b + i) (rot.s ⊗ up ⊕ rot.c ⊗ uq)
