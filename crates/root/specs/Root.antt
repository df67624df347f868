-- The square root of binary64. Definitions only.
use Rattle.std.specs.Prelude.{ℕ, zero, suc, ◌+◌, ◌*◌, ◌/◌, ◌^◌, true, false, cond, nat_le, Float}
use Rattle.std.specs.Float.{nan, inf, fin, binary64}
use Rattle.std.specs.Float.Ieee.{up, down, round}

-- The whole root of n, for an n below 4 ^ k: the largest s with s * s ≤ n. From the whole root s of n / 4 it is 2 * s, or one more.
abbrev pub next : ℕ → ℕ → ℕ
next n s = cond (nat_le ((s * 2 + 1) * (s * 2 + 1)) n) (s * 2 + 1) (s * 2)

-- The whole root of n, for an n below 4 ^ k: k times `next`, a binary digit at a time.
unfoldable pub whole : ℕ → ℕ → ℕ
whole zero n = 0
whole (suc k) n = next n (whole k (n / 4))

-- How many times 2 ^ -1074, the least double above zero, the magnitude of a finite double is: a whole number.
abbrev pub units : Float → ℕ
units nan = 0
units (inf s) = 0
units (fin s m e) = m * up e * 2 ^ 1074 / down e

-- The root of a number of u units. In units of 2 ^ -1075 it lies from s up to s + 1, for s the whole root of 4 * u * 2 ^ 1074, which is below 4 ^ 1600.
-- So close, the whole stretch rounds to one double, and this rounds the middle of it.
unfoldable pub root_of : ℕ → Float
unfolding whole round
root_of u = round binary64 false (2 * whole 1600 (4 * (u * 2 ^ 1074)) + 1) (2 ^ 1076)

-- The square root: of a zero of either sign and of +infinity itself, of a NaN and of what is below 0 the NaN, of any other number `root_of` its units.
unfoldable pub root : Float → Float
unfolding root_of
root nan = nan
root (inf true) = nan
root (inf false) = inf false
root (fin s zero e) = fin s zero e
root (fin true (suc m) e) = nan
root (fin false (suc m) e) = root_of (units (fin false (suc m) e))
