-- The definition at some numbers, computed.
use mathlib.Core.Path.{◌≡◌, refl}
use lib.Ieee.{nan, binary64, of_bits}
use Rattle.hypot.specs.Hypot2.{hypot2}

-- exact
pub three_four_five : hypot2 (of_bits binary64 0x4008_0000_0000_0000) (of_bits binary64 0x4010_0000_0000_0000) ≡ of_bits binary64 0x4014_0000_0000_0000
unfolding hypot2 of_bits
three_four_five = refl

-- two minus zeros give zero
pub zeros : hypot2 (of_bits binary64 0x8000_0000_0000_0000) (of_bits binary64 0x8000_0000_0000_0000) ≡ of_bits binary64 0x0000_0000_0000_0000
unfolding hypot2 of_bits
zeros = refl

-- an infinity beside a NaN
pub infinity_first : hypot2 (of_bits binary64 0x7ff8_0000_0000_0000) (of_bits binary64 0xfff0_0000_0000_0000) ≡ of_bits binary64 0x7ff0_0000_0000_0000
unfolding hypot2 of_bits
infinity_first = refl

-- a NaN beside a number
pub no_number : hypot2 (of_bits binary64 0x7ff8_0000_0000_0000) (of_bits binary64 0x0000_0000_0000_0000) ≡ nan
unfolding hypot2 of_bits
no_number = refl

-- the exact root is a midpoint, and the even double is below it
pub tie_down : hypot2 (of_bits binary64 0x3fef_9f69_b8ff_1045) (of_bits binary64 0x3fe8_7440_cc66_080c) ≡ of_bits binary64 0x3ff3_fccc_3f09_b326
unfolding hypot2 of_bits
tie_down = refl

-- and above it
pub tie_up : hypot2 (of_bits binary64 0x3fec_3c05_90be_201b) (of_bits binary64 0x3fe8_f32c_940a_6728) ≡ of_bits binary64 0x3ff2_d6de_a9f3_b6be
unfolding hypot2 of_bits
tie_up = refl

-- the least double twice: √2 units
pub least : hypot2 (of_bits binary64 0x0000_0000_0000_0001) (of_bits binary64 0x0000_0000_0000_0001) ≡ of_bits binary64 0x0000_0000_0000_0001
unfolding hypot2 of_bits
least = refl

-- √8 units
pub least_up : hypot2 (of_bits binary64 0x0000_0000_0000_0002) (of_bits binary64 0x0000_0000_0000_0002) ≡ of_bits binary64 0x0000_0000_0000_0003
unfolding hypot2 of_bits
least_up = refl

-- a subnormal beside another, at the border of the normal range
pub to_normal : hypot2 (of_bits binary64 0x000f_ffff_ffff_ffff) (of_bits binary64 0x0000_0000_0400_0000) ≡ of_bits binary64 0x0010_0000_0000_0000
unfolding hypot2 of_bits
to_normal = refl

-- a gap of 26 in the exponents that counts, and one of 27 that does not
pub gap : hypot2 (of_bits binary64 0x3ff0_0000_0000_0000) (of_bits binary64 0x3e5f_ffff_ffff_ffff) ≡ of_bits binary64 0x3ff0_0000_0000_0002
unfolding hypot2 of_bits
gap = refl

pub gap_more : hypot2 (of_bits binary64 0x3ff0_0000_0000_0000) (of_bits binary64 0x3e4f_ffff_ffff_ffff) ≡ of_bits binary64 0x3ff0_0000_0000_0000
unfolding hypot2 of_bits
gap_more = refl

-- the last y that does not overflow beside the largest double, and the first that does
pub last_finite : hypot2 (of_bits binary64 0x7fef_ffff_ffff_ffff) (of_bits binary64 0x7e46_a09e_667f_3bcc) ≡ of_bits binary64 0x7fef_ffff_ffff_ffff
unfolding hypot2 of_bits
last_finite = refl

pub first_infinite : hypot2 (of_bits binary64 0x7fef_ffff_ffff_ffff) (of_bits binary64 0x7e46_a09e_667f_3bcd) ≡ of_bits binary64 0x7ff0_0000_0000_0000
unfolding hypot2 of_bits
first_infinite = refl
