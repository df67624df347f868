-- What is proved of `root`, the square root of a double. Laws only.
use Rattle.std.specs.Prelude.{◌≡◌, T, Float}
use Rattle.std.specs.Float.{binary64}
use Rattle.std.specs.Float.Ieee.{fits}
use Rattle.std.specs.Float.Ieee.Positive.{positive}
use Rattle.root.proofs.Nearest.{nearest_only, root_nearest}
use Rattle.root.proofs.Neighbours.{between_nearest, between_only, root_between}
use Rattle.root.specs.Nearest.{Between, Nearest}
use Rattle.root.specs.Root.{root}
use Rattle.promises.specs.Nearness.{NearestOfAll}
use Rattle.promises.proofs.NearnessLaws.{between_nearest_of_all, nearest_of_all_only, root_nearest_of_all}

-- For every finite double x above 0 `root x` is a finite double that is strictly nearer to the exact root of x than every other finite double, whatever its sign. Infinities and NaN are no candidates.
pub t1_root_nearest_of_all : (x : Float) → T (fits binary64 x) → T (positive x) → NearestOfAll x (root x)
t1_root_nearest_of_all = root_nearest_of_all

-- Of all doubles, whatever their signs, one at the most is so.
pub t1_nearest_of_all_only : (x r s : Float) → NearestOfAll x r → NearestOfAll x s → r ≡ s
t1_nearest_of_all_only = nearest_of_all_only

-- As the contract of `root` has it: for every finite double x above 0 `root x` is strictly nearer to the exact root of x than any other double that is finite and has no minus sign.
pub t1_root_nearest : (x : Float) → T (fits binary64 x) → T (positive x) → Nearest x (root x)
t1_root_nearest = root_nearest

-- One double at the most is so.
pub t1_nearest_only : (x r s : Float) → Nearest x r → Nearest x s → r ≡ s
t1_nearest_only = nearest_only

-- For every finite double x above 0, x lies strictly between the squares of the midpoints of `root x` and its two neighbours.
pub t1_root_between : (x : Float) (f : T (fits binary64 x)) (p : T (positive x)) → Between x (root x)
t1_root_between = root_between

-- One double at the most has x so between.
pub t1_between_only : (x r s : Float) → Between x r → Between x s → r ≡ s
t1_between_only = between_only

-- A double that has x so between is nearer than any other that is finite and has no minus sign.
pub t1_between_nearest : (x r : Float) → Between x r → Nearest x r
t1_between_nearest = between_nearest

-- And nearer than any other finite double, whatever its sign.
pub t1_between_nearest_of_all : (x r : Float) → Between x r → NearestOfAll x r
t1_between_nearest_of_all = between_nearest_of_all
