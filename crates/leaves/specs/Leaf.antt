-- The small leaves of f64: magnitude, the larger of two, the finite test, hypot. Definitions only.
use Rattle.std.specs.Prelude.{Bool, true, false, cond, Float}
use Rattle.std.specs.Float.{nan, inf, fin}
use Rattle.std.specs.Float.Ieee.{lt, eq}
use Rattle.grid.specs.Real.{zero64, one64, ◌⊕◌, ◌⊗◌, ◌⊘◌}
use Rattle.root.specs.Root.{root}

-- the absolute value: the sign bit is cleared
unfoldable pub magnitude : Float → Float
magnitude nan = nan
magnitude (inf s) = inf false
magnitude (fin s m e) = fin false m e

-- the Rust's `max` but with a NaN on the left: there stands tst1 alone, which is never one (`plus_zero`, `plus_larger`, eigen_theorems/specs/Tql2Invariant.antt)
unfoldable pub larger : Float → Float → Float
larger a b = cond (lt a b) b a

-- neither a NaN nor infinite
unfoldable pub is_finite : Float → Bool
is_finite nan = false
is_finite (inf s) = false
is_finite (fin s m e) = true

-- for magnitudes a and b, b not above a: a times the root of 1 + (b / a)², each step rounded
unfoldable pub hypot_of : Float → Float → Float
hypot_of a b =
    let q = b ⊘ a in
    cond (eq a zero64) zero64 (a ⊗ root (one64 ⊕ q ⊗ q))

-- the greater magnitude comes first
unfoldable pub hypot : Float → Float → Float
hypot x y =
    let p = magnitude x in
    let q = magnitude y in
    cond (lt p q) (hypot_of q p) (hypot_of p q)
