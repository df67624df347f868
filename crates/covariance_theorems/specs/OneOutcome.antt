-- The promise of `covariance` determines the outcome; what the matrix held before changes nothing but what a refusal 1, 25 or 6 leaves as it was; the index is 0. Laws only.
use Rattle.std.specs.Prelude.{◌≡◌, Bool, true, false, cond, ◌||◌, List, ℕ, ◌*◌, ltb, ℤ, length}
use Rattle.std.proofs.Math.Path.{refl}
use Rattle.std.proofs.Common.{sym, ◌∙◌, ⊎_elim, inl, inr, arith}
use Rattle.std.proofs.lemmas.Bool.{eqb-false}
use Rattle.grid.specs.Real.{Vec}
use Rattle.answers.specs.Answers.{refused, done, passed, emptied}
use Rattle.answers.specs.IndexLaws.{refuse_index}
use Rattle.answers.specs.declared.Answer.{Answer}
use Rattle.answers.specs.Checks.{lengths}
use Rattle.answers.specs.ChecksLaws.{lengths_index}
use Rattle.covariance.specs.MatrixEntries.{first_over, matrix_of, computed}
use Rattle.covariance.specs.Covariance.{band_checks, cov_checks, covariance}
use Rattle.covariance_theorems.specs.ExactEntries.{Untouched}
use Rattle.covariance.specs.ChecksLaws.{numbers}

pub covariance_one : (n N : ℕ) (samples : List ℤ) (m : Vec) (o p : Answer × Vec) → o ≡ covariance n N samples m → p ≡ covariance n N samples m → o ≡ p
covariance_one n N samples m o p e f = e ∙ sym f

pub bands_index : (n N : ℕ) (x : Answer) → x.index ≡ 0 → (band_checks n N x).index ≡ 0
bands_index n N x h =
    let c = cond (ltb N 1 || ltb 65536 N) (refused 25 0) x in
    refuse_index (ltb 256 n) 1 0 c (refuse_index (ltb N 1 || ltb 65536 N) 25 0 x h)

module _ (n N : ℕ) (samples : List ℤ) where
  computed_same : (x y : Vec) → length x ≡ length y → computed n N samples x ≡ computed n N samples y
  unfolding computed
  computed_same x y l = rw l

  pub covariance_old_contents : (x y : Vec) → length x ≡ length y → (Untouched (covariance n N samples x).0 → ⊥) → covariance n N samples x ≡ covariance n N samples y
  unfolding covariance
  covariance_old_contents x y l h = go (passed check) refl
    where
      check : Answer
      check = cov_checks n N (length samples) (length x)

      untouched : (check.answer ≡ 0 → ⊥) → Untouched check
      untouched d = ⊎_elim (λ f. inl (record { some = omega arith; few = f })) (λ e. inr e) (numbers n N (length samples) (length x))

      go : (b : Bool) → passed check ≡ b → covariance n N samples x ≡ covariance n N samples y
      go true e = rw (← l, e) (computed_same x y l)
      go false e = absurd (h (rw e (untouched (eqb-false check.answer 0 e))))

  checks_index : (s m : ℕ) → (cov_checks n N s m).index ≡ 0
  unfolding cov_checks
  checks_index s m = bands_index n N (lengths s (n * N) m (n * n) 0 0) (lengths_index s (n * N) m (n * n) 0 0)

  pub covariance_index_zero : (m : Vec) → (covariance n N samples m).0.index ≡ 0
  unfolding covariance computed
  covariance_index_zero m = go (passed check) (ltb (first_over n N samples) (n * n))
    where
      check : Answer
      check = cov_checks n N (length samples) (length m)

      go : (a b : Bool) → (cond a (cond b (emptied (refused 26 (first_over n N samples)) m) (done 0, matrix_of n N samples)) (check, m)).0.index ≡ 0
      go true true = refl
      go true false = refl
      go false b = checks_index (length samples) (length m)
