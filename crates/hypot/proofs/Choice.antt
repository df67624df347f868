-- **pythag_1**, **pythag_2**: the editions.
use mathlib.Core.Path.{◌≡◌, refl}
use lib.Ieee.{Float}
use Rattle.leaves.specs.Leaf.{hypot}
use Rattle.hypot.specs.Hypot2.{hypot2}
use Rattle.hypot.specs.Edition.{pythag}

pub pythag_1 : (x y : Float) → pythag 1 x y ≡ hypot x y
unfolding pythag
pythag_1 x y = refl

pub pythag_2 : (x y : Float) → pythag 2 x y ≡ hypot2 x y
unfolding pythag
pythag_2 x y = refl
