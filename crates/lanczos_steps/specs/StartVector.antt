-- The first vector of a Lanczos run. Definitions only.
use Rattle.std.specs.Prelude.{ℕ, cond, pos, Float}
use Rattle.std.specs.Float.Ieee.{lt, of_int}
use Rattle.std.specs.Float.{binary64}
use Rattle.grid.specs.Real.{Vec, one64, epsilon, ◌⊘◌}
use Rattle.grid.specs.Table.{table}
use Rattle.root.specs.Root.{root}
use Rattle.gram_schmidt.specs.Unit.{over}

-- the first vector: b over its norm, where that is above EPSILON, else 1 / root n throughout
unfoldable pub started : ℕ → Float → Vec → Vec
started n by b = cond (lt epsilon by) (over n by b) (table (λ i. one64 ⊘ root (of_int binary64 (pos n))) n)
