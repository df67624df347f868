-- The tests that settle the skip test with no root. Laws only.
-- `both`, `surely` and `surely_not` are what the code does on the way; no public promise cites them.
use Rattle.std.specs.Prelude.{Bool, ◌&&◌, Float}
use Rattle.std.specs.Float.Ieee.{lt, le}
use Rattle.grid.specs.Real.{zero64, epsilon, ◌⊗◌}
use Rattle.leaves.specs.Leaf.{is_finite}

unfoldable pub both : Float → Float → Bool
both u p = lt zero64 u && is_finite u && lt zero64 p && is_finite p

-- g is at most epsilon times u, and u at most the root of p
unfoldable pub surely : Float → Float → Float → Bool
surely g u p = both u p && le g (epsilon ⊗ u) && lt (u ⊗ u) p

-- g is above epsilon times u, and u at least the root of p
unfoldable pub surely_not : Float → Float → Float → Bool
surely_not g u p = both u p && lt (epsilon ⊗ u) g && lt p (u ⊗ u)
