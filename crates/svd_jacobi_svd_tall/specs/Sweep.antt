-- One sweep of `jacobi_svd_tall` of document 000, operation for operation. Definitions only.
-- The work array w holds the factor u, rows by cols, then the factor v, cols by cols, both column by column, then one value for each column. A column is known by
-- the index in w at which it begins.
use Rattle.std.specs.Prelude.{Bool, true, false, cond, ◌||◌, ℕ, ◌+◌, ◌*◌, Float, set}
use Rattle.std.specs.Float.Ieee.{neg, le, eq}
use Rattle.grid.specs.Loop.{upto}
use Rattle.grid.specs.Real.{Vec, at, zero64, one64, two64, epsilon, ◌⊕◌, ◌⊖◌, ◌⊗◌, ◌⊘◌}
use Rattle.root.specs.Root.{root}
use Rattle.leaves.specs.Leaf.{magnitude}
use Rattle.svd_jacobi_svd_tall.specs.declared.sweep.Sums.{Sums}
use Rattle.svd_jacobi_svd_tall.specs.declared.sweep.Rotation.{Rotation}

-- ---- where the parts of w stand

-- where column p of u begins
abbrev pub u_at : ℕ → ℕ → ℕ
u_at rows p = p * rows

-- where column p of v begins
abbrev pub v_at : ℕ → ℕ → ℕ → ℕ
v_at rows cols p = rows * cols + p * cols

-- where the value of column j stands
abbrev pub value_at : ℕ → ℕ → ℕ → ℕ
value_at rows cols j = rows * cols + cols * cols + j

-- ---- one pair of columns

-- alpha, beta and gamma of the columns at a and b, each summed from +0.0
unfoldable pub gram : ℕ → ℕ → ℕ → Vec → Sums
gram a b rows w =
    upto (λ i x.
    let up = at w (a + i) in
    let uq = at w (b + i) in
    record { alpha = x.alpha ⊕ up ⊗ up; beta = x.beta ⊕ uq ⊗ uq; gamma = x.gamma ⊕ up ⊗ uq }) 0 rows (record { alpha = zero64; beta = zero64; gamma = zero64 })

-- the columns are orthogonal to working precision
unfoldable pub skipped : Sums → Bool
skipped x = eq x.gamma zero64 || le (magnitude x.gamma) (epsilon ⊗ root (x.alpha ⊗ x.beta))

-- zeta of -0 takes sign +1
abbrev pub sign_of : Float → Float
sign_of zeta = cond (le zero64 zeta) one64 (neg one64)

-- the rotation of a pair, by way of zeta: its c, s and t
unfoldable pub rotation_of : Sums → Rotation
rotation_of x =
    let zeta = (x.beta ⊖ x.alpha) ⊘ (two64 ⊗ x.gamma) in
    let t = sign_of zeta ⊘ (magnitude zeta ⊕ root (one64 ⊕ zeta ⊗ zeta)) in
    let c = one64 ⊘ root (one64 ⊕ t ⊗ t) in
    record { c = c; s = c ⊗ t; t = t }

-- the columns at a and b, rotated
unfoldable pub rotated : ℕ → ℕ → ℕ → Rotation → Vec → Vec
rotated a b rows rot w =
    upto (λ i w.
    let up = at w (a + i) in
    let uq = at w (b + i) in
    set (set w (a + i) (rot.c ⊗ up ⊖ rot.s ⊗ uq)) (b + i) (rot.s ⊗ up ⊕ rot.c ⊗ uq)) 0 rows w

-- columns p and q of both factors by one rotation; the flag says whether a pair was rotated
unfoldable pub pair_done : ℕ → ℕ → ℕ → ℕ → Bool × Vec → Bool × Vec
pair_done rows cols p q x =
    let g = gram (u_at rows p) (u_at rows q) rows x.1 in
    let rot = rotation_of g in
    let u = rotated (u_at rows p) (u_at rows q) rows rot x.1 in
    cond (skipped g) x (true, rotated (v_at rows cols p) (v_at rows cols q) cols rot u)

-- ---- one sweep

-- column p with every column behind it: q = p + 1 .. cols - 1
unfoldable pub pairs_of : ℕ → ℕ → ℕ → Bool × Vec → Bool × Vec
pairs_of rows cols p x = upto (pair_done rows cols p) (p + 1) cols x

-- every pair: p = 0 .. cols - 1. The flag is false before the first
unfoldable pub sweep : ℕ → ℕ → Vec → Bool × Vec
sweep rows cols w = upto (pairs_of rows cols) 0 cols (false, w)
