-- **The path** (`gain_keeps_path`): `covariance`, then `symmetric_eigen`, of samples and of 2 ^ k times them. Laws only.
use Rattle.std.specs.Prelude.{◌≡◌, List, map, ℕ, ◌+◌, ◌*◌, ℤ, pos, length}
use Rattle.std.proofs.Common.{sym, ap, ◌∙◌, subst}
use Rattle.std.specs.Float.{binary64}
use Rattle.std.specs.Float.Ieee.Fits.{of_int-fits}
use Rattle.grid.specs.Real.{Vec}
use Rattle.answers.specs.declared.Answer.{Answer}
use Rattle.covariance.specs.MatrixEntries.{cell_at, matrix_of}
use Rattle.covariance.specs.Covariance.{covariance}
use Rattle.covariance_theorems.specs.ExactEntriesLaws.{done_is}
use Rattle.eigen_theorems.specs.Outcome.{Outcome, Promised}
use Rattle.svd_gain_theorems.specs.Scale.{scale}
use Rattle.gain_path_theorems.specs.Numbers.{Doubles, table_fits}
use Rattle.gain_path_theorems.specs.CovarianceGained.{louder}
use Rattle.gain_path_theorems.proofs.CovarianceGain.{covariance_gain}
use Rattle.gain_path_theorems.specs.EigenFine.{EigenFine, EigenGained}
use Rattle.gain_path_theorems.proofs.EigenScaled.{gain_keeps_eigenvectors}

-- what a call that is done gave are doubles
done_fits : (n N : ℕ) (samples : List ℤ) (m : Vec) (x : Answer × Vec) → x ≡ covariance n N samples m → x.0.answer ≡ 0 → Doubles x.1
unfolding matrix_of
done_fits n N samples m x p z =
    subst Doubles (sym (ap (λ (r : Answer × Vec). r.1) p ∙ (done_is n N samples m (ap (λ (r : Answer × Vec). r.0.answer) (sym p) ∙ z)).0))
    (table_fits _ (n * n) (λ i. of_int-fits binary64 (cell_at n N samples i)))

-- **gain_keeps_path**: x and y are what two calls of covariance came back with, o and p what two of symmetric_eigen made of their matrices
pub gain_keeps_path : (k n N : ℕ) (samples : List ℤ) (m m' : Vec) (x y : Answer × Vec) (limit edition : ℕ) (work result work' result' : Vec) (o p : Outcome) → length m' ≡ length m
    → x ≡ covariance n N samples m → y ≡ covariance n N (louder k samples) m' → y.0.answer ≡ 0 → length work' ≡ length work → length result' ≡ length result
    → Promised n limit edition x.1 work result o → Promised n limit edition y.1 work' result' p → EigenFine n limit edition x.1 work result
    → EigenFine n limit edition y.1 work' result' → (x.0.answer ≡ 0) × EigenGained (pos (k + k)) n work result work' result' o p
gain_keeps_path k n N samples m m' x y limit edition work result work' result' o p long c c' z works results q q' f f' =
    let e = (covariance_gain k n N samples m m' x y long c c').entries z in
    let E : y.1 ≡ map (scale (pos (k + k))) x.1 = e.1 in (
      e.0,
      gain_keeps_eigenvectors (pos (k + k)) n limit edition x.1 work result work' result' o p works results (done_fits n N samples m x c e.0)
          (subst Doubles E (done_fits n N (louder k samples) m' y c' z)) q (subst (λ (a : Vec). Promised n limit edition a work' result' p) E q') f
          (subst (λ (a : Vec). EigenFine n limit edition a work' result') E f'),
    )
