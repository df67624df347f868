-- An edition that is neither 1 nor 2: answer 12 behind 1 and 2, whatever the lengths, and nothing is touched. Laws only.
use Rattle.std.specs.Prelude.{◌≡◌, refl, Bool, true, false, ℕ, ◌+◌, ◌*◌, ◌≤◌, length}
use Rattle.std.proofs.Common.{⊎_elim, le-ltb, le-leb}
use Rattle.grid.specs.Real.{Vec}
use Rattle.answers.specs.Answers.{refused}
use Rattle.answers.specs.Checks.{limit_good, edition_good}
use Rattle.answers.proofs.EditionLaws.{edition_right, edition_12}
use Rattle.eigen_symmetric_eigen.specs.SymmetricEigen.{eigen}

other : (edition : ℕ) → (edition ≡ 1 → ⊥) → (edition ≡ 2 → ⊥) → edition_good edition ≡ false
other edition p q = go (edition_good edition) refl
  where
    go : (g : Bool) → edition_good edition ≡ g → g ≡ false
    go true e = absurd (⊎_elim p q (edition_right edition e))
    go false e = refl

-- **edition_refused**
pub edition_refused : (n limit edition : ℕ) (a work result : Vec) → n ≤ 256 → 1 ≤ limit → limit ≤ 60 → (edition ≡ 1 → ⊥) → (edition ≡ 2 → ⊥)
    → eigen n limit edition a work result ≡ (refused 12 0, work, result)
unfolding eigen limit_good
edition_refused n limit edition a work result small least most p q =
    rw (edition_12 edition (length a) (n * n) (length work) n (length result) (n + n * n) (other edition p q)) (simp (le-ltb 256 n small, le-leb 1 limit least, le-leb limit 60 most))
