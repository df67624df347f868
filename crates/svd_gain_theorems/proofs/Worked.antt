-- `gain_keeps_basis` has something to say: of the matrix (1 2 3 / 4 5 6), of 8 times it and of a thirty-second of it what it asks is computed, and the answer is 0. Laws only.
use Rattle.std.specs.Prelude.{◌≡◌, refl, true, false, T, ℤ, pos, negsuc}
use Rattle.std.proofs.Common.{sym, subst}
use Rattle.grid.specs.Real.{Vec, zeros}
use Rattle.answers.specs.Answers.{least, decomposition_length}
use Rattle.svd_sort_svd_descending.specs.Result.{longest, work_length}
use Rattle.svd_theorems.specs.Outcome.{begun}
use Rattle.svd_gain_theorems.specs.Scale.{fine}
use Rattle.svd_gain_theorems.specs.Fine.{SvdFine}
use Rattle.svd_gain_theorems.proofs.Gain.{gain_keeps_basis}
use Rattle.svd_gain_theorems.proofs.TestLaws.{test_right}
use Rattle.svd_gain_theorems.specs.Cases.{tested, outcome, matrix, gained, Keeps}

matrix_passes : tested fine false 2 3 matrix ≡ true
unfolding tested matrix
matrix_passes = refl

eightfold_passes : tested fine false 2 3 (gained (pos 3)) ≡ true
unfolding tested gained
eightfold_passes = refl

small_passes : tested fine false 2 3 (gained (negsuc 4)) ≡ true
unfolding tested gained
small_passes = refl

pub done : (outcome 2 3 matrix).0.answer ≡ 0
unfolding outcome matrix
done = refl

asked : (a : Vec) → tested fine false 2 3 a ≡ true → SvdFine 2 3 1 1 60 a (zeros (work_length 2 3)) (zeros (decomposition_length 2 3 1 1))
unfolding tested
asked a e taken = test_right (longest 2 3) (least 2 3) 60 (begun 2 3 a) (subst T (sym e) tt)

pub matrix_asked : SvdFine 2 3 1 1 60 matrix (zeros (work_length 2 3)) (zeros (decomposition_length 2 3 1 1))
matrix_asked = asked matrix matrix_passes

pub eightfold_asked : SvdFine 2 3 1 1 60 (gained (pos 3)) (zeros (work_length 2 3)) (zeros (decomposition_length 2 3 1 1))
eightfold_asked = asked (gained (pos 3)) eightfold_passes

pub small_asked : SvdFine 2 3 1 1 60 (gained (negsuc 4)) (zeros (work_length 2 3)) (zeros (decomposition_length 2 3 1 1))
small_asked = asked (gained (negsuc 4)) small_passes

keeps : (k : ℤ) → SvdFine 2 3 1 1 60 (gained k) (zeros (work_length 2 3)) (zeros (decomposition_length 2 3 1 1)) → Keeps k
unfolding outcome gained
keeps k e = gain_keeps_basis k 2 3 1 1 60 matrix _ _ _ _ _ _ refl refl refl refl matrix_asked e

-- 8 times the matrix has the same U and V^T, and 8 times the values
pub worked_3 : Keeps (pos 3)
worked_3 = keeps (pos 3) eightfold_asked

-- and a thirty-second of it the same, and a thirty-second of the values
pub worked_minus_5 : Keeps (negsuc 4)
worked_minus_5 = keeps (negsuc 4) small_asked
