-- `gain_keeps_eigenvectors` has something to say: of a matrix 3 by 3 and of 4 times it what it asks is computed in edition 1, of one 2 by 2, of 8 times it and of a thirty-second of it in edition 2, and
-- the answers are 0. Laws only.
use Rattle.std.specs.Prelude.{◌≡◌, refl, true, false, map, ℕ, T, ℤ, pos, negsuc}
use Rattle.std.proofs.Common.{sym, subst}
use Rattle.std.specs.Float.Ieee.Fits.{and_l, and_r}
use Rattle.grid.specs.Real.{Vec, zeros}
use Rattle.svd_gain_theorems.specs.Scale.{scale, fine}
use Rattle.gain_path_theorems.specs.Numbers.{Doubles}
use Rattle.gain_path_theorems.specs.EigenFine.{EigenFine}
use Rattle.gain_path_theorems.proofs.EigenScaled.{gain_keeps_eigenvectors}
use Rattle.gain_path_theorems.specs.EigenTest.{all_fit}
use Rattle.gain_path_theorems.proofs.EigenTestLaws.{of_fit, run_test_lem}
use Rattle.gain_path_theorems.specs.EigenCases.{tested, outcome, Keeps, matrix, high}

matrix_passes : tested fine false 3 60 1 matrix ≡ true
unfolding tested matrix
matrix_passes = refl

fourfold_passes : tested fine false 3 60 1 (map (scale (pos 2)) matrix) ≡ true
unfolding tested matrix
fourfold_passes = refl

high_passes : tested fine false 2 60 2 high ≡ true
unfolding tested high
high_passes = refl

eightfold_passes : tested fine false 2 60 2 (map (scale (pos 3)) high) ≡ true
unfolding tested high
eightfold_passes = refl

small_passes : tested fine false 2 60 2 (map (scale (negsuc 4)) high) ≡ true
unfolding tested high
small_passes = refl

pub done_1 : (outcome 3 60 1 matrix).0.answer ≡ 0
unfolding outcome matrix
done_1 = refl

pub done_2 : (outcome 2 60 2 high).0.answer ≡ 0
unfolding outcome high
done_2 = refl

-- ---- so that it is asked, and what the theorem says is so

pub fits_asked : (n limit edition : ℕ) (a : Vec) → tested fine false n limit edition a ≡ true → Doubles a
unfolding tested
fits_asked n limit edition a e = of_fit a (and_l (all_fit a) _ (subst T (sym e) tt))

pub asked : (n limit edition : ℕ) (a work result : Vec) → tested fine false n limit edition a ≡ true → EigenFine n limit edition a work result
unfolding tested
asked n limit edition a work result e _ _ = run_test_lem n limit edition a (and_r (all_fit a) _ (subst T (sym e) tt))

keeps : (n limit edition : ℕ) (k : ℤ) (a : Vec) → tested fine false n limit edition a ≡ true → tested fine false n limit edition (map (scale k) a) ≡ true → Keeps n limit edition k a
unfolding outcome
keeps n limit edition k a e f =
    gain_keeps_eigenvectors k n limit edition a _ _ _ _ _ _ refl refl (fits_asked n limit edition a e) (fits_asked n limit edition (map (scale k) a) f) refl refl
    (asked n limit edition a _ _ e) (asked n limit edition (map (scale k) a) _ _ f)

pub matrix_asked : EigenFine 3 60 1 matrix (zeros 3) (zeros 12)
matrix_asked = asked 3 60 1 matrix _ _ matrix_passes

pub fourfold_asked : EigenFine 3 60 1 (map (scale (pos 2)) matrix) (zeros 3) (zeros 12)
fourfold_asked = asked 3 60 1 (map (scale (pos 2)) matrix) _ _ fourfold_passes

pub worked_2 : Keeps 3 60 1 (pos 2) matrix
worked_2 = keeps 3 60 1 (pos 2) matrix matrix_passes fourfold_passes

pub worked_3 : Keeps 2 60 2 (pos 3) high
worked_3 = keeps 2 60 2 (pos 3) high high_passes eightfold_passes

pub worked_minus_5 : Keeps 2 60 2 (negsuc 4) high
worked_minus_5 = keeps 2 60 2 (negsuc 4) high high_passes small_passes
