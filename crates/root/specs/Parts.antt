-- What the parts of `root` compute from a bit pattern. Laws only.
-- What stands here is what the code does on the way; no public promise cites it.
use Rattle.std.specs.Prelude.{ℕ, ◌+◌, ◌-◌, ◌*◌, ◌/◌, ◌%◌, ◌^◌, cond, ◌==◌, nat_lt}
use Rattle.std.specs.Int.Count.{count_leading_zeros}
use Rattle.root.specs.Root.{whole}

-- The number with the bit pattern b, finite and above zero, is sig b * 2 ^ exp b / 2 ^ 1127, and sig b has 53 binary digits.
abbrev pub sig : ℕ → ℕ
sig b = cond (nat_lt b (2 ^ 52)) (b * 2 ^ (count_leading_zeros 64 b - 11)) (2 ^ 52 + b % 2 ^ 52)

abbrev pub exp : ℕ → ℕ
exp b = cond (nat_lt b (2 ^ 52)) (64 - count_leading_zeros 64 b) (b / 2 ^ 52 + 52)

-- the significand, or twice it where the exponent would be odd
abbrev pub even : ℕ → ℕ → ℕ
even m x = cond (x % 2 == 0) (m * 2) m

-- the root's significand: half the whole root of 54 digits, rounded up
abbrev pub half : ℕ → ℕ
half n = (whole 54 (n * 2 ^ 54) + 1) / 2

-- the bit pattern of the root
unfoldable pub root_bits : ℕ → ℕ
root_bits b = (exp b + 969) / 2 * 2 ^ 52 + half (even (sig b) (exp b))
