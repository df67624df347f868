-- hypot by its edition: 1 is the scope's rule, which rounds at each step; 2 is correctly rounded. Definitions only.
-- What is worked out above this takes the edition as a parameter, and nothing there looks at it.
use Rattle.std.specs.Prelude.{ℕ, cond, eqb, Float}
use Rattle.leaves.specs.Leaf.{hypot}
use Rattle.hypot.specs.Hypot2.{hypot2}

-- hypot of x and y: where the edition is 1 by the scope's steps, else correctly rounded
unfoldable pub pythag : ℕ → Float → Float → Float
pythag edition x y = cond (eqb edition 1) (hypot x y) (hypot2 x y)
