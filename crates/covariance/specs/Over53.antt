-- Which whole number is over 2^53. Definitions only.
use Rattle.std.specs.Prelude.{Bool, ltb, ℤ, nat_abs}

-- the magnitude of a whole number is over 2^53
unfoldable pub over : ℤ → Bool
over z = ltb 0x20_0000_0000_0000 (nat_abs z)
