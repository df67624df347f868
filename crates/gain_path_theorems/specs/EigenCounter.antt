-- No kind of clause of what `gain_keeps_eigenvectors` asks can be dropped: matrices of which both runs pass the test but for one kind, and what it says is not so. Laws only.
use Rattle.std.specs.Prelude.{◌≡◌, refl, Bool, true, false, map, eqb, pos, negsuc}
use Rattle.std.proofs.Common.{ap, true≢false}
use Rattle.std.specs.Float.{binary64}
use Rattle.std.specs.Float.Ieee.{of_bits, eq}
use Rattle.grid.specs.Real.{Vec, at}
use Rattle.leaves.specs.Leaf.{is_finite}
use Rattle.answers.specs.declared.Answer.{Answer}
use Rattle.svd_gain_theorems.specs.Scale.{scale, fine}
use Rattle.svd_gain_theorems.specs.Cases.{fine_or_over}
use Rattle.gain_path_theorems.specs.EigenCases.{tested, outcome, Fails, matrix, low, high}

-- A subnormal on the way: the lesser value is rounded there, and comes out a unit higher. Each number given is in the range, each computed one finite, and no product is zero that need not be.
rounded : Vec → Bool
unfolding of_bits eq
rounded v = eq (at v 0) (of_bits binary64 0x0012_bec3_3301_8867)

pub subnormal_needed : Fails is_finite false 2 60 1 (negsuc 1020) low
unfolding tested outcome low scale rounded
subnormal_needed = record { first = refl; second = refl; not_so = λ h. true≢false (ap rounded (h.values refl)) }

-- A product that comes out zero: what is left of e at the end of the first pass, so that it passes for settled. Each number is zero or in the normal range.
settles : Answer → Bool
settles x = eqb x.answer 0

pub zero_product_needed : Fails fine true 3 1 1 (negsuc 539) matrix
unfolding tested outcome matrix scale settles
zero_product_needed = record { first = refl; second = refl; not_so = λ h. true≢false (ap settles h.numbers) }

-- An overflow: 2 e is infinite, so that the shift is that of equal values, and the vectors are turned by 45 degrees, with answer 0. No number is subnormal, and no product is zero.
level : Vec → Bool
unfolding eq
level v = eq (at v 0) (at v 1)

pub overflow_needed : Fails fine_or_over false 2 60 1 (pos 1022) high
unfolding tested outcome high scale fine_or_over level
overflow_needed = record { first = refl; second = refl; not_so = λ h. true≢false (ap level (h.vectors refl)) }

pub overflow_done : (outcome 2 60 1 (map (scale (pos 1022)) high)).0.answer ≡ 0
unfolding outcome high scale
overflow_done = refl
