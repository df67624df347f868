-- A list whose numbers are all finite, one that has a number that is not, and the first such. Definitions only.
use Rattle.std.specs.Prelude.{◌≡◌, true, false, ℕ, ◌<◌, length, Float}
use Rattle.grid.specs.Real.{Vec, at}
use Rattle.leaves.specs.Leaf.{is_finite}
use Rattle.leaves.specs.Scan.{class_of}

abbrev pub Finite : Vec → Type 0
Finite d = (k : ℕ) → k < length d → is_finite (at d k) ≡ true

-- a number of d that is not finite
abbrev pub NotFinite : Vec → Type 0
NotFinite d = (k : ℕ) × (k < length d) × (is_finite (at d k) ≡ false)

-- number i of n numbers x is the first that is not finite, and of class c
pub record First (x : ℕ → Float) (n i c : ℕ) : Type 0 where
  pub within : i < n
  pub seen : is_finite (x i) ≡ false
  pub class : c ≡ class_of (x i)
  pub before : (k : ℕ) → k < i → is_finite (x k) ≡ true
