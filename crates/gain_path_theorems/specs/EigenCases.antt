-- A call of `symmetric_eigen`, the test of its run and a call of `covariance`, with every definition opened, so that they can be computed; and the matrices and samples that they are computed for. Definitions only.
use Rattle.std.specs.Prelude.{◌≡◌, Bool, true, ◌&&◌, List, [], ◌∷◌, map, ℕ, ◌+◌, ◌*◌, ℤ, pos, Float}
use Rattle.std.specs.Float.{binary64}
use Rattle.std.specs.Float.Ieee.{fits, of_bits, of_int, neg, add, sub, mul, div, lt, le, eq, ne}
use Rattle.grid.specs.Loop.{seek, first, every, times, upto, down, rounds, drops, fall}
use Rattle.grid.specs.Real.{Vec, zeros, one64, two64}
use Rattle.grid.specs.Table.{table}
use Rattle.root.specs.Root.{whole, root_of, root}
use Rattle.leaves.specs.Leaf.{magnitude, larger, is_finite, hypot_of, hypot}
use Rattle.leaves.specs.Scan.{class_of, scan, place_of, lower_of, first_bad_lower, by_rows}
use Rattle.hypot.specs.Hypot2.{root_of_sum, hypot2}
use Rattle.hypot.specs.Edition.{pythag}
use Rattle.answers.specs.Checks.{limit_good, edition_good, lengths, fitting_edition}
use Rattle.answers.specs.declared.Answer.{Answer}
use Rattle.covariance.specs.Over53.{over}
use Rattle.covariance.specs.SampleSums.{total, products}
use Rattle.covariance.specs.MatrixEntries as me
use Rattle.covariance.specs.Covariance.{cov_checks, covariance}
use Rattle.eigen_tred2_definition.specs.Tred2 as tr
use Rattle.eigen_tql2_pass.specs.Transform.{signed, shift, lessened, rotated, spin, spins, landed, transformed}
use Rattle.eigen_tql2_pass.specs.Pass.{mark1, settled, verdict, pass}
use Rattle.eigen_tql2.specs.LStartEnd.{split, opened, closed}
use Rattle.eigen_tql2.specs.RunOverL.{iterated, stage, turn, run}
use Rattle.eigen_tql2.specs.Sort.{least_from, swapped, sort_step, sorted}
use Rattle.eigen_tql2.specs.Finish.{mark2, ql_finished}
use Rattle.eigen_tql2.specs.Tql2.{moved_up, tql2}
use Rattle.eigen_symmetric_eigen.specs.Layout.{columns}
use Rattle.eigen_symmetric_eigen.specs.AfterTred2.{mark0, after_tred}
use Rattle.eigen_symmetric_eigen.specs.SymmetricEigen.{decomposed, given, eigen_entered, eigen}
use Rattle.eigen_theorems.specs.Outcome.{Outcome}
use Rattle.svd_gain_theorems.specs.Scale.{scale, is_zero, fine}
use Rattle.svd_gain_theorems.specs.Test.{along, rounds_test, product_test}
use Rattle.gain_path_theorems.specs.EigenFine.{EigenGained}
use Rattle.gain_path_theorems.specs.Tql2Test.{all_of, quotient, hypot_test, drops_test, tql2_test}
use Rattle.gain_path_theorems.specs.EigenTest.{all_fit, downs_test, run_test}

-- n by n: doubles, and a run that passes the test
unfoldable pub tested : (Float → Bool) → Bool → ℕ → ℕ → ℕ → Vec → Bool
unfolding fits of_bits neg add sub mul div lt le eq ne seek first every times upto down rounds drops fall table whole root_of root magnitude larger is_finite hypot_of hypot class_of scan place_of by_rows root_of_sum hypot2 pythag tr.scale_of tr.skip_row tr.over_scale tr.clear tr.against tr.generate tr.similar_column tr.similarity tr.over_h tr.lessen tr.update_column tr.updates tr.reflect tr.skip tr.reduce tr.householder tr.reduction tr.column_over tr.column_dot tr.take_off tr.turn_columns tr.clear_column tr.apply tr.accumulate tr.accumulation tr.copy_last tr.move_last tr.tred2 signed shift lessened rotated spin spins landed transformed mark1 settled verdict pass split opened closed iterated stage turn moved_up columns mark0 scale is_zero fine along rounds_test product_test all_of quotient hypot_test drops_test tql2_test all_fit downs_test run_test
tested ok lost n limit edition a = all_fit a && run_test ok lost n limit edition a

unfoldable pub outcome : ℕ → ℕ → ℕ → Vec → Outcome
unfolding of_bits neg add sub mul div lt le eq ne seek first times upto down rounds drops fall table whole root_of root magnitude larger is_finite hypot_of hypot class_of scan place_of lower_of first_bad_lower by_rows root_of_sum hypot2 pythag limit_good edition_good lengths fitting_edition tr.scale_of tr.skip_row tr.over_scale tr.clear tr.against tr.generate tr.similar_column tr.similarity tr.over_h tr.lessen tr.update_column tr.updates tr.reflect tr.skip tr.reduce tr.householder tr.reduction tr.column_over tr.column_dot tr.take_off tr.turn_columns tr.clear_column tr.apply tr.accumulate tr.accumulation tr.copy_last tr.move_last tr.tred2 signed shift lessened rotated spin spins landed transformed mark1 settled verdict pass split opened closed iterated stage turn run least_from swapped sort_step sorted mark2 ql_finished moved_up tql2 columns mark0 after_tred decomposed given eigen_entered eigen scale
outcome n limit edition a = eigen n limit edition a (zeros n) (zeros (n + n * n))

-- what the theorem says of a matrix and of 2 ^ k times it
abbrev pub Keeps : ℕ → ℕ → ℕ → ℤ → Vec → Type 0
Keeps n limit edition k a = EigenGained k n (zeros n) (zeros (n + n * n)) (zeros n) (zeros (n + n * n)) (outcome n limit edition a) (outcome n limit edition (map (scale k) a))

-- both runs pass a test that lets something pass, and yet it is not so
pub record Fails (ok : Float → Bool) (lost : Bool) (n limit edition : ℕ) (k : ℤ) (a : Vec) : Type 0 where
  pub first : tested ok lost n limit edition a ≡ true
  pub second : tested ok lost n limit edition (map (scale k) a) ≡ true
  pub not_so : Keeps n limit edition k a → ⊥

-- 3, 2, 1 / 2, 4, -2 / 1, -2, 11
unfoldable pub matrix : Vec
unfolding of_bits
matrix =
    of_bits binary64 0x4008_0000_0000_0000
    ∷ two64
    ∷ one64
    ∷ two64
    ∷ of_bits binary64 0x4010_0000_0000_0000
    ∷ of_bits binary64 0xc000_0000_0000_0000
    ∷ one64
    ∷ of_bits binary64 0xc000_0000_0000_0000
    ∷ of_bits binary64 0x4026_0000_0000_0000
    ∷ []

-- 1, 1 / 1, 3
unfoldable pub low : Vec
unfolding of_bits
low = one64 ∷ one64 ∷ one64 ∷ of_bits binary64 0x4008_0000_0000_0000 ∷ []

-- 1, 2 / 2, 2
unfoldable pub high : Vec
unfolding of_bits
high = one64 ∷ two64 ∷ two64 ∷ two64 ∷ []

-- 0, 0, 1 / 0, 1, 3, whose covariance is 2, 5 / 5, 14
unfoldable pub samples : List ℤ
samples = pos 0 ∷ pos 0 ∷ pos 1 ∷ pos 0 ∷ pos 1 ∷ pos 3 ∷ []

-- the covariance of two bands of three samples
unfoldable pub covered : List ℤ → Answer × Vec
unfolding of_int seek first times upto table lengths over total products me.whole me.first_over me.matrix_of me.computed cov_checks covariance
covered x = covariance 2 3 x (zeros 4)
