-- What the parts of `hypot2` compute from bit patterns. Laws only.
-- What stands here is what the code does on the way; no public promise cites it.
use Rattle.std.specs.Prelude.{ℕ, ◌+◌, ◌-◌, ◌*◌, ◌/◌, ◌%◌, ◌^◌, cond, ltb, eqb}

-- A pattern b below the infinity's is low b * 2 ^ 52 + high b, and its number is high b * 2 ^ low b units of 2 ^ -1074.
abbrev pub low : ℕ → ℕ
low b = b / 2 ^ 52 - 1

abbrev pub high : ℕ → ℕ
high b = b - low b * 2 ^ 52

abbrev pub val : ℕ → ℕ
val b = high b * 2 ^ low b

-- What is added to s before its last binary digit is dropped. Where t is zero, s is all there is, and a tie goes to the even number.
abbrev pub digit : ℕ → ℕ → ℕ
digit s t = cond (eqb t 0) (s / 2 % 2) 1

abbrev pub bits : ℕ → ℕ → ℕ → ℕ
bits k s t = k * 2 ^ 52 + (s + digit s t) / 2

-- The pattern of s / 2 * 2 ^ k units, rounded: an s of 54 digits at most, then one of 55.
unfoldable pub packed : ℕ → ℕ → ℕ → ℕ
packed k s t = cond (ltb (bits k s t) 0x7ff0_0000_0000_0000) (bits k s t) 0x7ff0_0000_0000_0000

unfoldable pub rounded : ℕ → ℕ → ℕ → ℕ
unfolding packed
rounded k s t = cond (ltb s (2 ^ 54)) (packed k s t) (packed (k + 1) (s / 2) (t + s % 2))
