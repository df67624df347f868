-- What it means that one double is nearer to a square root than another, over whole numbers with a sign, so that no double is left out for its minus sign. Definitions only.
use Rattle.std.specs.Prelude.{◌≡◌, ◌⊎◌, true, false, ℕ, ◌*◌, ◌^◌, ◌<◌, T, Float, ℤ, pos, negsuc, neg_ℤ, ◌+ℤ◌}
use Rattle.std.specs.Float.{nan, inf, fin, binary64}
use Rattle.std.specs.Float.Ieee.{fits}
use Rattle.std.specs.Float.Ieee.Scale.{finite}
use Rattle.root.specs.Root.{units}

-- how many times 2 ^ -1074, the least double above zero, a finite double is: a whole number with its sign
abbrev pub value : Float → ℤ
value nan = pos 0
value (inf s) = pos 0
value (fin false m e) = pos (units (fin false m e))
value (fin true m e) = neg_ℤ (pos (units (fin true m e)))

abbrev pub Less : ℤ → ℤ → Type 0
Less (pos a) (pos b) = a < b
Less (pos a) (negsuc b) = ⊥
Less (negsuc a) (pos b) = Unit
Less (negsuc a) (negsuc b) = b < a

-- t < √n, and √n < t
abbrev pub Below : ℤ → ℕ → Type 0
Below (pos t) n = t * t < n
Below (negsuc t) n = Unit

abbrev pub Above : ℤ → ℕ → Type 0
Above (pos t) n = n < t * t
Above (negsuc t) n = ⊥

-- a is strictly nearer to √n than b: b lies below a and the midpoint (b + a) / 2 below √n, or b above a and the midpoint above √n; both sides are doubled
abbrev pub Nearer : ℕ → ℤ → ℤ → Type 0
Nearer n a b = (Less b a × Below (b +ℤ a) (4 * n)) ⊎ (Less a b × Above (b +ℤ a) (4 * n))

-- r is a finite double that is strictly nearer to √x than every other one, whatever its sign. In units of 2 ^ -1074, √x is √(units x * 2 ^ 1074). An infinity or a NaN is at no distance
pub record NearestOfAll (x r : Float) : Type 0 where
  pub held : T (fits binary64 r)
  pub real : T (finite r)
  pub nearer : (y : Float) → T (fits binary64 y) → T (finite y) → (y ≡ r → ⊥) → Nearer (units x * 2 ^ 1074) (value r) (value y)
