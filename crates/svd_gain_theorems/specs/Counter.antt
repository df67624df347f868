-- No clause of what `gain_keeps_basis` asks can be dropped: matrices of which both runs pass the test but for one clause, and what it says is not so. Laws only.
use Rattle.std.specs.Prelude.{◌≡◌, refl, Bool, true, false, eqb, pos, negsuc}
use Rattle.std.proofs.Common.{sym, ap, true≢false}
use Rattle.std.specs.Float.Ieee.{eq}
use Rattle.grid.specs.Real.{Vec, at, one64}
use Rattle.leaves.specs.Leaf.{is_finite}
use Rattle.answers.specs.declared.Answer.{Answer}
use Rattle.svd_gain_theorems.specs.Scale.{scale, is_zero, fine}
use Rattle.svd_gain_theorems.specs.Cases.{tested, outcome, Fails, small, tiny, large, fine_or_over}

-- A subnormal on the way: the square of the one number loses its last digits, so that its length is another, and the number divided by it is not 1. Each number is finite, and no product is
-- zero.
unit : Vec → Bool
unit v = eq (at v 0) one64

pub subnormal_needed : Fails is_finite false 1 (pos 530) small
unfolding tested outcome small scale unit
subnormal_needed = record { first = refl; second = refl; not_so = λ _ _ h. true≢false (ap unit (h.factors refl)) }

-- A product that comes out zero: the square of the one number, so that the value is 0 and the number is not divided. Each number is zero or in the normal range.
none : Vec → Bool
none v = is_zero (at v 0)

pub zero_product_needed : Fails fine true 1 (pos 600) tiny
unfolding tested outcome tiny scale is_zero none
zero_product_needed = record { first = refl; second = refl; not_so = λ _ _ h. true≢false (sym (ap none (h.values refl))) }

-- An overflow: the product of both squared lengths is infinite, so that the columns pass for orthogonal and the first sweep is the last, with answer 0. No number is subnormal, and no product
-- is zero.
once : Answer → Bool
once x = eqb x.count 1

pub overflow_needed : Fails fine_or_over false 2 (negsuc 299) large
unfolding tested outcome large scale fine_or_over once
overflow_needed = record { first = refl; second = refl; not_so = λ _ _ h. true≢false (sym (ap once h.numbers)) }

pub overflow_done : (outcome 2 2 large).0.answer ≡ 0
unfolding outcome large
overflow_done = refl
