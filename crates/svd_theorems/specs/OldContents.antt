-- What work and result held before changes nothing but what a refusal 1 to 6 leaves as it was. Laws only.
use Rattle.std.specs.Prelude.{◌≡◌, refl, cond, ◌||◌, ℕ, ◌≤◌, ltb, length}
use Rattle.std.proofs.Common.{◌∙◌, arith}
use Rattle.grid.specs.Real.{Vec, zeros}
use Rattle.leaves.specs.Scan.{first_bad}
use Rattle.answers.specs.Answers.{passed, refusal7}
use Rattle.answers.specs.Early.{Early}
use Rattle.answers.proofs.OutcomeLaws.{refuse_few, unless_few, old}
use Rattle.answers.specs.declared.Answer.{Answer}
use Rattle.answers.specs.Checks.{limit_good}
use Rattle.answers.specs.ChecksLaws.{lengths_few}
use Rattle.svd.specs.Svd.{checks, ran, svd}
use Rattle.svd_theorems.specs.Outcome.{Outcome}

pub svd_checks_few : (m n u vt limit a b c : ℕ) → (checks m n u vt limit a b c).answer ≤ 6
unfolding checks
svd_checks_few m n u vt limit a b c = refuse_few (ltb 256 m || ltb 256 n) 1 0 _ (omega arith) (unless_few (limit_good limit) 2 0 _ (omega arith) (lengths_few a _ b _ c _))

pub svd_old_contents : (m n u vt limit : ℕ) (matrix work result work' result' : Vec) → length work ≡ length work' → length result ≡ length result'
    → (Early (svd m n u vt limit matrix work result).0 → ⊥) → svd m n u vt limit matrix work result ≡ svd m n u vt limit matrix work' result'
unfolding svd
svd_old_contents m n u vt limit matrix work result work' result' lw lr h =
    old Outcome (λ x. x.0) (c (length work) (length result)) (o (length work) (length result)) (o (length work) (length result)) _ (c (length work) (length result), work', result')
    (svd_checks_few m n u vt limit (length matrix) (length work) (length result)) (λ t. refl) refl refl h
    ∙ (λ i. cond (passed (c (lw i) (lr i))) (o (lw i) (lr i)) (c (lw i) (lr i), work', result'))
  where
    c : ℕ → ℕ → Answer
    c = checks m n u vt limit (length matrix)

    b : Answer
    b = refusal7 (first_bad matrix)

    o : ℕ → ℕ → Answer × Vec × Vec
    o j k = cond (passed b) (ran m n u vt limit matrix (zeros j) (zeros k)) (b, zeros j, zeros k)
