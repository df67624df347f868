-- What is proved of the hypot of each edition. Laws only.
use Rattle.std.specs.Prelude.{Bool, ◌≡◌, zero, T, Float, ℤ}
use Rattle.std.specs.Float.{binary64, fin, nan}
use Rattle.std.specs.Float.Ieee.{fits, of_bits}
use Rattle.std.specs.Float.Ieee.Scale.{finite}
use Rattle.grid.specs.Real.{zero64}
use Rattle.hypot.proofs.Choice.{pythag_1, pythag_2}
use Rattle.hypot.specs.Edition.{pythag}
use Rattle.leaves.specs.Leaf.{hypot, magnitude}
use Rattle.hypot.proofs.Examples.{first_infinite as ex-first-infinite, gap as ex-gap, gap_more as ex-gap-more, infinity_first as ex-infinity-first, last_finite as ex-last-finite, least as ex-least, least_up as ex-least-up, no_number as ex-no-number, three_four_five as ex-three-four-five, tie_down as ex-tie-down, tie_up as ex-tie-up, to_normal as ex-to-normal, zeros as ex-zeros}
use Rattle.hypot.proofs.Sides.{hypot2_beside_zero, hypot2_symmetric, hypot2_zero}
use Rattle.hypot.specs.Hypot2.{hypot2}
use Rattle.hypot.proofs.Nearest.{hypot2_nearest, nearest_only}
use Rattle.hypot.specs.NearestEven.{NearestEven}

-- Of two finite doubles the hypot of edition 2 is a double than which none without a minus sign is nearer to the exact root of x² + y², the even one of two that are as near, and +infinity from the midpoint of the largest double and 2^1024 on.
pub t25_hypot2_nearest : (x y : Float) → T (fits binary64 x) → T (fits binary64 y) → T (finite x) → T (finite y) → NearestEven x y (hypot2 x y)
t25_hypot2_nearest = hypot2_nearest

-- One double at the most is so.
pub t25_nearest_only : (x y r s : Float) → NearestEven x y r → NearestEven x y s → r ≡ s
t25_nearest_only = nearest_only

-- The two numbers may change places, whatever they are.
pub t25_hypot2_symmetric : (x y : Float) → hypot2 x y ≡ hypot2 y x
t25_hypot2_symmetric = hypot2_symmetric

-- Beside +0.0 it is the other number's magnitude.
pub t25_hypot2_zero : (x : Float) → T (fits binary64 x) → hypot2 x zero64 ≡ magnitude x
t25_hypot2_zero = hypot2_zero

-- And so beside a zero of either sign.
pub t25_hypot2_beside_zero : (x : Float) (t : Bool) (d : ℤ) → T (fits binary64 x) → hypot2 x (fin t zero d) ≡ magnitude x
t25_hypot2_beside_zero = hypot2_beside_zero

-- Of 3 and 4 it is 5, computed.
pub t25_three_four_five : hypot2 (of_bits binary64 0x4008_0000_0000_0000) (of_bits binary64 0x4010_0000_0000_0000) ≡ of_bits binary64 0x4014_0000_0000_0000
t25_three_four_five = ex-three-four-five

-- Two minus zeros give zero.
pub t25_zeros : hypot2 (of_bits binary64 0x8000_0000_0000_0000) (of_bits binary64 0x8000_0000_0000_0000) ≡ of_bits binary64 0x0000_0000_0000_0000
t25_zeros = ex-zeros

-- Of a NaN and an infinity it is +infinity.
pub t25_infinity_first : hypot2 (of_bits binary64 0x7ff8_0000_0000_0000) (of_bits binary64 0xfff0_0000_0000_0000) ≡ of_bits binary64 0x7ff0_0000_0000_0000
t25_infinity_first = ex-infinity-first

-- Of a NaN and a number it is a NaN.
pub t25_no_number : hypot2 (of_bits binary64 0x7ff8_0000_0000_0000) (of_bits binary64 0x0000_0000_0000_0000) ≡ nan
t25_no_number = ex-no-number

-- A tie: the exact root is a midpoint, and the even double is below it.
pub t25_tie_down : hypot2 (of_bits binary64 0x3fef_9f69_b8ff_1045) (of_bits binary64 0x3fe8_7440_cc66_080c) ≡ of_bits binary64 0x3ff3_fccc_3f09_b326
t25_tie_down = ex-tie-down

-- A tie where the even double is above it.
pub t25_tie_up : hypot2 (of_bits binary64 0x3fec_3c05_90be_201b) (of_bits binary64 0x3fe8_f32c_940a_6728) ≡ of_bits binary64 0x3ff2_d6de_a9f3_b6be
t25_tie_up = ex-tie-up

-- Of the least double twice it is the least double.
pub t25_least : hypot2 (of_bits binary64 0x0000_0000_0000_0001) (of_bits binary64 0x0000_0000_0000_0001) ≡ of_bits binary64 0x0000_0000_0000_0001
t25_least = ex-least

-- Of twice the least double, twice, it is three times the least double: √8 is nearer to 3.
pub t25_least_up : hypot2 (of_bits binary64 0x0000_0000_0000_0002) (of_bits binary64 0x0000_0000_0000_0002) ≡ of_bits binary64 0x0000_0000_0000_0003
t25_least_up = ex-least-up

-- Of two subnormal numbers it may be the least normal one.
pub t25_to_normal : hypot2 (of_bits binary64 0x000f_ffff_ffff_ffff) (of_bits binary64 0x0000_0000_0400_0000) ≡ of_bits binary64 0x0010_0000_0000_0000
t25_to_normal = ex-to-normal

-- A number whose exponent is 26 lower still counts.
pub t25_gap : hypot2 (of_bits binary64 0x3ff0_0000_0000_0000) (of_bits binary64 0x3e5f_ffff_ffff_ffff) ≡ of_bits binary64 0x3ff0_0000_0000_0002
t25_gap = ex-gap

-- One whose exponent is 27 lower does not.
pub t25_gap_more : hypot2 (of_bits binary64 0x3ff0_0000_0000_0000) (of_bits binary64 0x3e4f_ffff_ffff_ffff) ≡ of_bits binary64 0x3ff0_0000_0000_0000
t25_gap_more = ex-gap-more

-- Beside the largest double this y does not overflow.
pub t25_last_finite : hypot2 (of_bits binary64 0x7fef_ffff_ffff_ffff) (of_bits binary64 0x7e46_a09e_667f_3bcc) ≡ of_bits binary64 0x7fef_ffff_ffff_ffff
t25_last_finite = ex-last-finite

-- And the next double above it does.
pub t25_first_infinite : hypot2 (of_bits binary64 0x7fef_ffff_ffff_ffff) (of_bits binary64 0x7e46_a09e_667f_3bcd) ≡ of_bits binary64 0x7ff0_0000_0000_0000
t25_first_infinite = ex-first-infinite

-- Edition 1 is the scope's own hypot.
pub t26_pythag_1 : (x y : Float) → pythag 1 x y ≡ hypot x y
t26_pythag_1 = pythag_1

-- Edition 2 is the hypot of T25.
pub t26_pythag_2 : (x y : Float) → pythag 2 x y ≡ hypot2 x y
t26_pythag_2 = pythag_2
