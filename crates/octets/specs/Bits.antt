-- A double by its 64 bits, and the bits of a double. Definitions only.
use Rattle.std.specs.Prelude.{cond, ℕ, ◌%◌, ◌^◌, ltb, Float}
use Rattle.std.specs.Float.{nan, binary64}
use Rattle.std.specs.Float.Ieee.{is_nan, to_bits, of_bits}

-- the number with those bits; every NaN is the one that the logic has
unfoldable pub float : ℕ → Float
float b = cond (ltb 0x7ff0_0000_0000_0000 (b % 2 ^ 63)) nan (of_bits binary64 b)

-- the bits of a number; the logic has one NaN, and its bits are written so
unfoldable pub bits : Float → ℕ
bits x = cond (is_nan x) 0x7ff8_0000_0000_0000 (to_bits binary64 x)
