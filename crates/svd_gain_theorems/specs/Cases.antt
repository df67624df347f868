-- A call of `svd` and the test of its run, with every definition opened, so that both can be computed; and the matrices that they are computed for. Definitions only.
use Rattle.std.specs.Prelude.{◌≡◌, Bool, true, not, ◌||◌, [], ◌∷◌, map, ℕ, ℤ, Float}
use Rattle.std.specs.Float.{binary64}
use Rattle.std.specs.Float.Ieee.{of_bits, neg, add, sub, mul, div, lt, le, eq}
use Rattle.grid.specs.Loop.{seek, first, every, times, upto, rounds}
use Rattle.grid.specs.Real.{Vec, zeros, zero64, one64, two64}
use Rattle.grid.specs.Table.{table, rows}
use Rattle.root.specs.Root.{whole, root_of, root}
use Rattle.leaves.specs.Leaf.{magnitude, is_finite}
use Rattle.leaves.specs.Scan.{class_of, scan, place_of, by_rows}
use Rattle.answers.specs.Answers.{least, present, decomposition_length}
use Rattle.answers.specs.Checks.{limit_good, lengths}
use Rattle.svd_jacobi_svd_tall.specs.Sweep.{gram, skipped, rotation_of, rotated, pair_done, pairs_of, sweep}
use Rattle.svd_jacobi_svd_tall.specs.Marks.{factors_bad, all_bad}
use Rattle.svd_jacobi_svd_tall.specs.SingularValues.{norm_sq, divided, normal_step, normalised}
use Rattle.svd_jacobi_svd_tall.specs.JacobiSvdTall.{verdict, swept, sweeps, finished, jacobi}
use Rattle.svd_sort_svd_descending.specs.Order.{rank, order}
use Rattle.svd_sort_svd_descending.specs.Result.{longest, work_length, sorted_out}
use Rattle.svd.specs.Svd.{source, loaded, checks, ran, svd}
use Rattle.svd_theorems.specs.Outcome.{Outcome, begun}
use Rattle.svd_gain_theorems.specs.Scale.{scale, is_zero, fine}
use Rattle.svd_gain_theorems.specs.Gained.{Gained}
use Rattle.svd_gain_theorems.specs.Test.{product_test, along, rounds_test, gram_test, skip_test, rotation_test, turn_test, pair_test, sweep_test, column_test, run_test}

-- both factors wanted, the limit 60
unfoldable pub tested : (Float → Bool) → Bool → ℕ → ℕ → Vec → Bool
unfolding of_bits neg add sub mul div lt le eq seek first times upto rounds whole root_of root magnitude is_finite table rows class_of scan place_of by_rows limit_good lengths least present decomposition_length gram skipped rotation_of rotated pair_done pairs_of sweep factors_bad verdict swept sweeps norm_sq divided normal_step normalised all_bad finished jacobi rank order longest work_length source loaded sorted_out checks ran svd scale is_zero fine product_test every along rounds_test gram_test skip_test rotation_test turn_test pair_test sweep_test column_test run_test
tested ok lost m n a = run_test ok lost (longest m n) (least m n) 60 (begun m n a)

unfoldable pub outcome : ℕ → ℕ → Vec → Outcome
unfolding of_bits neg add sub mul div lt le eq seek first times upto rounds whole root_of root magnitude is_finite table rows class_of scan place_of by_rows limit_good lengths least present decomposition_length gram skipped rotation_of rotated pair_done pairs_of sweep factors_bad verdict swept sweeps norm_sq divided normal_step normalised all_bad finished jacobi rank order longest work_length source loaded sorted_out checks ran svd scale is_zero fine
outcome m n a = svd m n 1 1 60 a (zeros (work_length m n)) (zeros (decomposition_length m n 1 1))

-- ---- where the theorem has something to say

-- 1, 2, 3 / 4, 5, 6: fewer rows than columns, so that the transpose is worked on
unfoldable pub matrix : Vec
matrix =
    one64
    ∷ two64
    ∷ of_bits binary64 0x4008_0000_0000_0000
    ∷ of_bits binary64 0x4010_0000_0000_0000
    ∷ of_bits binary64 0x4014_0000_0000_0000
    ∷ of_bits binary64 0x4018_0000_0000_0000
    ∷ []

-- 2 ^ k times it
unfoldable pub gained : ℤ → Vec
unfolding matrix scale
gained k = map (scale k) matrix

-- what it says of both
abbrev pub Keeps : ℤ → Type 0
Keeps k =
    let work : Vec = zeros (work_length 2 3) in
    let result : Vec = zeros (decomposition_length 2 3 1 1) in
    Gained k (least 2 3) work result work result (outcome 2 3 matrix) (outcome 2 3 (gained k))

-- ---- where it has not

-- a matrix n by n and 2 ^ k times it: both runs pass the test, and yet
pub record Fails (ok : Float → Bool) (lost : Bool) (n : ℕ) (k : ℤ) (a : Vec) : Type 0 where
  pub first : tested ok lost n n a ≡ true
  pub second : tested ok lost n n (map (scale k) a) ≡ true
  pub not_so : (work result : Vec) → Gained k (least n n) work result work result (outcome n n a) (outcome n n (map (scale k) a)) → ⊥

-- the one number 2 ^ -530 * (1 + 2 ^ -52)
unfoldable pub small : Vec
small = of_bits binary64 0x1ed0_0000_0000_0001 ∷ []

-- the one number 2 ^ -600
unfoldable pub tiny : Vec
tiny = of_bits binary64 0x1a70_0000_0000_0000 ∷ []

-- 2 ^ 300 times (1 1 / 0 1)
unfoldable pub large : Vec
large = of_bits binary64 0x52b0_0000_0000_0000 ∷ of_bits binary64 0x52b0_0000_0000_0000 ∷ zero64 ∷ of_bits binary64 0x52b0_0000_0000_0000 ∷ []

-- in the normal range, or not finite
unfoldable pub fine_or_over : Float → Bool
unfolding fine is_finite
fine_or_over x = fine x || not (is_finite x)
