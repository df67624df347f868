-- Where `symmetric_eigen` refuses an edition, and where `solve` and `pseudo_inverse` refuse a tolerance. Definitions only.
use Rattle.std.specs.Prelude.{◌≡◌, ◌⊎◌, true, ℕ, ◌≤◌, Float}
use Rattle.std.specs.Float.{nan}
use Rattle.std.specs.Float.Ieee.{lt}
use Rattle.grid.specs.Real.{zero64}

-- ---- 12

-- the edition is wrong, and nothing before it is
abbrev pub Wrong12 : ℕ → ℕ → ℕ → Type 0
Wrong12 n limit edition = (n ≤ 256) × (1 ≤ limit) × (limit ≤ 60) × (edition ≡ 1 → ⊥) × (edition ≡ 2 → ⊥)

-- ---- 11

-- the sizes, and that both factors are there
abbrev pub Whole : ℕ → ℕ → ℕ → ℕ → Type 0
Whole m n u vt = (m ≤ 256) × (n ≤ 256) × (u ≡ 0 → ⊥) × (vt ≡ 0 → ⊥)

-- a NaN, or below 0
abbrev pub Refused11 : Float → Type 0
Refused11 tol = (tol ≡ nan) ⊎ (lt tol zero64 ≡ true)
