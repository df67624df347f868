-- `tql2_gain` has something to say: of d = (1, 2) with 1 beside it, and of 8 times them, what it asks is computed, in both editions, and the answer is 0. Laws only.
use Rattle.std.specs.Prelude.{◌≡◌, refl, Bool, true, false, [], ◌∷◌, map, ℕ, T, pos}
use Rattle.std.proofs.Common.{sym, subst}
use Rattle.std.specs.Float.Ieee.{of_bits, neg, add, sub, mul, div, lt, le, eq}
use Rattle.grid.specs.Loop.{seek, first, every, times, upto, rounds, drops, fall}
use Rattle.grid.specs.Real.{Vec, zero64, one64, two64}
use Rattle.grid.specs.Table.{table}
use Rattle.root.specs.Root.{whole, root_of, root}
use Rattle.leaves.specs.Leaf.{magnitude, larger, is_finite, hypot_of, hypot}
use Rattle.leaves.specs.Scan.{class_of, scan, place_of, by_rows}
use Rattle.hypot.specs.Hypot2.{root_of_sum, hypot2}
use Rattle.hypot.specs.Edition.{pythag}
use Rattle.eigen_tql2_pass.specs.Transform.{signed, shift, lessened, rotated, spin, spins, landed, transformed}
use Rattle.eigen_tql2_pass.specs.Pass.{mark1, settled, verdict, pass}
use Rattle.eigen_tql2.specs.LStartEnd.{split, opened, closed}
use Rattle.eigen_tql2.specs.RunOverL.{iterated, stage, turn, run}
use Rattle.eigen_tql2.specs.Sort.{least_from, swapped, sort_step, sorted}
use Rattle.eigen_tql2.specs.Finish.{mark2, ql_finished}
use Rattle.eigen_tql2.specs.Tql2.{moved_up, tql2}
use Rattle.svd_gain_theorems.specs.Scale.{scale, is_zero, fine}
use Rattle.svd_gain_theorems.specs.Test.{along, rounds_test, product_test}
use Rattle.gain_path_theorems.specs.Tql2Test.{all_of, quotient, hypot_test, drops_test, tql2_test}
use Rattle.gain_path_theorems.proofs.Tql2TestLaws.{tql2_test_lem}
use Rattle.gain_path_theorems.specs.Tql2Fine.{Tql2Fine}

-- v, d and e
unfoldable pub given : ℕ → Vec × Vec × Vec
unfolding scale of_bits
given k = (one64 ∷ zero64 ∷ zero64 ∷ one64 ∷ [], map (scale (pos k)) (one64 ∷ two64 ∷ []), map (scale (pos k)) (zero64 ∷ one64 ∷ []))

unfoldable pub tested : ℕ → ℕ → Bool
unfolding given of_bits neg add sub mul div lt le eq seek first every times upto rounds drops fall whole root_of root table magnitude larger is_finite hypot_of hypot class_of scan place_of by_rows root_of_sum hypot2 pythag signed shift lessened rotated spin spins landed transformed mark1 settled verdict pass split opened closed iterated stage turn moved_up scale is_zero fine along rounds_test product_test all_of quotient hypot_test drops_test tql2_test
tested edition k = tql2_test fine false 2 3 edition (given k)

unfoldable pub answer : ℕ → ℕ → ℕ
unfolding given of_bits neg add sub mul div lt le eq seek first times upto rounds drops fall whole root_of root table magnitude larger is_finite hypot_of hypot class_of scan place_of by_rows root_of_sum hypot2 pythag signed shift lessened rotated spin spins landed transformed mark1 settled verdict pass split opened closed iterated stage turn run moved_up scale least_from swapped sort_step sorted mark2 ql_finished tql2
answer edition k = (tql2 2 3 edition (given k)).0.answer

one_passes : tested 1 0 ≡ true
unfolding tested
one_passes = refl

one_eightfold : tested 1 3 ≡ true
unfolding tested
one_eightfold = refl

two_passes : tested 2 0 ≡ true
unfolding tested
two_passes = refl

two_eightfold : tested 2 3 ≡ true
unfolding tested
two_eightfold = refl

pub done_1 : answer 1 3 ≡ 0
unfolding answer
done_1 = refl

pub done_2 : answer 2 3 ≡ 0
unfolding answer
done_2 = refl

asked : (edition k : ℕ) → tested edition k ≡ true → Tql2Fine 2 3 edition (given k)
unfolding tested
asked edition k e = tql2_test_lem 2 3 edition (given k) (subst T (sym e) tt)

pub asked_1 : Tql2Fine 2 3 1 (given 0) × Tql2Fine 2 3 1 (given 3)
asked_1 = (asked 1 0 one_passes, asked 1 3 one_eightfold)

pub asked_2 : Tql2Fine 2 3 2 (given 0) × Tql2Fine 2 3 2 (given 3)
asked_2 = (asked 2 0 two_passes, asked 2 3 two_eightfold)
