-- What `round` gives from 2 ^ 1024 on. Laws only.
use Rattle.std.specs.Prelude.{◌≡◌, refl, ℕ, ◌*◌, ◌^◌, ◌≤◌, Bool, false, cond}
use Rattle.std.proofs.Common.{ap, ◌∙◌, le-ltb}
use Rattle.std.specs.Float.{inf, binary64}
use Rattle.std.specs.Float.Ieee.{odd, units, round, of_bits}
use Rattle.std.specs.Float.Ieee.Fits.{round_is}
use Rattle.std.specs.Float.Ieee.Scale.{grid}
use Rattle.std.specs.Float.Ieee.Order.{kept, drop}

units_over : (q k : ℕ) → 2 ^ 2098 ≤ q * 2 ^ k → units binary64 false q k ≡ inf false
unfolding units
units_over q k h = ap (λ (b : Bool). cond b (odd 54 false q k 1074) (inf false)) (le-ltb (q * 2 ^ k) (2 ^ 2098) h)

pub round_over : (a c : ℕ) → 2 ^ 2098 ≤ grid binary64 a c → round binary64 false a c ≡ inf false
round_over a c h = round_is binary64 false a c ∙ units_over (kept 53 (a * 2 ^ 1074) c) (drop 53 (a * 2 ^ 1074) c) h

pub infinity : of_bits binary64 0x7ff0_0000_0000_0000 ≡ inf false
unfolding of_bits
infinity = refl
