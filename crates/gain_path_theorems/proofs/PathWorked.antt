-- `gain_keeps_path` has something to say: of two bands of three samples and of twice them what it asks is computed, and the answer is 0. Laws only.
use Rattle.std.specs.Prelude.{◌≡◌, refl, true, false, pos}
use Rattle.grid.specs.Real.{zeros}
use Rattle.svd_gain_theorems.specs.Scale.{fine}
use Rattle.gain_path_theorems.specs.CovarianceGained.{louder}
use Rattle.gain_path_theorems.specs.EigenFine.{EigenGained}
use Rattle.gain_path_theorems.specs.EigenCases.{tested, outcome, samples, covered}
use Rattle.gain_path_theorems.proofs.EigenWorked.{asked}
use Rattle.gain_path_theorems.proofs.PathGain.{gain_keeps_path}

done : (covered (louder 1 samples)).0.answer ≡ 0
unfolding covered samples
done = refl

samples_pass : tested fine false 2 60 1 (covered samples).1 ≡ true
unfolding tested covered samples
samples_pass = refl

twofold_pass : tested fine false 2 60 1 (covered (louder 1 samples)).1 ≡ true
unfolding tested covered samples
twofold_pass = refl

-- twice the samples give the same vectors, and 4 times the values
pub worked : EigenGained (pos 2) 2 (zeros 2) (zeros 6) (zeros 2) (zeros 6) (outcome 2 60 1 (covered samples).1) (outcome 2 60 1 (covered (louder 1 samples)).1)
unfolding outcome covered
worked =
    (gain_keeps_path 1 2 3 samples (zeros 4) (zeros 4) (covered samples) (covered (louder 1 samples)) 60 1 (zeros 2) (zeros 6) (zeros 2) (zeros 6) (outcome 2 60 1 (covered samples).1)
    (outcome 2 60 1 (covered (louder 1 samples)).1) refl refl refl done refl refl refl refl (asked 2 60 1 (covered samples).1 (zeros 2) (zeros 6) samples_pass)
    (asked 2 60 1 (covered (louder 1 samples)).1 (zeros 2) (zeros 6) twofold_pass)
    ).1

pub answers_0 : (outcome 2 60 1 (covered samples).1).0.answer ≡ 0
unfolding outcome covered samples
answers_0 = refl
