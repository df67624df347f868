-- What it means that a double is the one nearest to a root, over whole numbers: among all doubles, and between its two neighbours. Definitions only.
use Rattle.std.specs.Prelude.{◌+◌, ◌-◌, ◌*◌, ◌^◌, ◌<◌, Bool, true, false, T, from_bits, to_bits, Float}
use Rattle.std.specs.Float.{nan, inf, fin, binary64}
use Rattle.std.specs.Float.Ieee.{fits}
use Rattle.std.specs.Float.Ieee.Positive.{positive}
use Rattle.root.specs.Root.{units}

-- finite, and with no minus sign
abbrev pub counted : Float → Bool
counted nan = false
counted (inf s) = false
counted (fin true m e) = false
counted (fin false m e) = true

-- r is a double that is nearer to √x than any other double y. A y below r is farther where the midpoint (y + r) / 2 is below √x, and a y above r
-- where the midpoint is above √x. In units of 2 ^ -1074, √x is √(units x * 2 ^ 1074), so both sides are squared, and multiplied by 4. A y below zero is
-- farther than zero is.
pub record Nearest (x r : Float) : Type 0 where
  pub held : T (fits binary64 r)
  pub sign : T (counted r)
  pub below : (y : Float) → T (fits binary64 y) → T (counted y) → units y < units r → (units y + units r) * (units y + units r) < 4 * (units x * 2 ^ 1074)
  pub above : (y : Float) → T (fits binary64 y) → T (counted y) → units r < units y → 4 * (units x * 2 ^ 1074) < (units y + units r) * (units y + units r)

-- the doubles beside r, which is finite and above zero: the patterns beside its own
abbrev pub lesser : Float → Float
lesser r = from_bits binary64 (to_bits binary64 r - 1)

abbrev pub greater : Float → Float
greater r = from_bits binary64 (to_bits binary64 r + 1)

-- r is a double above zero, and x lies strictly between the squares of the midpoints of r and its two neighbours
pub record Between (x r : Float) : Type 0 where
  pub held : T (fits binary64 r)
  pub sign : T (positive r)
  pub below : (units (lesser r) + units r) * (units (lesser r) + units r) < 4 * (units x * 2 ^ 1074)
  pub above : 4 * (units x * 2 ^ 1074) < (units (greater r) + units r) * (units (greater r) + units r)
