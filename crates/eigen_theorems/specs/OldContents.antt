-- What work and result held before changes nothing but what a refusal 1 to 6 or 12 leaves as it was. Laws only.
use Rattle.std.specs.Prelude.{◌≡◌, refl, Bool, true, false, cond, not, ℕ, ◌+◌, ◌*◌, ltb, length}
use Rattle.std.proofs.Common.{◌∙◌, inl, arith}
use Rattle.grid.specs.Real.{Vec}
use Rattle.answers.specs.Answers.{refused, passed}
use Rattle.answers.specs.Early.{EarlyOr12}
use Rattle.answers.proofs.OutcomeLaws.{old_kept}
use Rattle.answers.specs.declared.Answer.{Answer}
use Rattle.answers.specs.Checks.{limit_good, fitting_edition}
use Rattle.answers.proofs.EditionLaws.{edition_checked}
use Rattle.eigen_symmetric_eigen.specs.SymmetricEigen.{eigen_entered, eigen}
use Rattle.eigen_theorems.specs.Outcome.{Outcome}

pub eigen_old_contents : (n limit edition : ℕ) (a work result work' result' : Vec) → length work ≡ length work' → length result ≡ length result'
    → (EarlyOr12 (eigen n limit edition a work result).0 → ⊥) → eigen n limit edition a work result ≡ eigen n limit edition a work' result'
unfolding eigen
eigen_old_contents n limit edition a work result work' result' lw lr h = go (ltb 256 n) (not (limit_good limit)) h
  where
    c : ℕ → ℕ → Answer
    c j k = fitting_edition edition (length a) (n * n) j n k (n + n * n)

    last : Vec → Vec → Answer × Vec × Vec
    last v w = cond (passed (c (length v) (length w))) (eigen_entered n limit edition a) (c (length v) (length w), v, w)

    go : (p q : Bool) → (EarlyOr12 (cond p (refused 1 0, work, result) (cond q (refused 2 0, work, result) (last work result))).0 → ⊥)
        → cond p (refused 1 0, work, result) (cond q (refused 2 0, work, result) (last work result)) ≡ cond p (refused 1 0, work', result') (cond q (refused 2 0, work', result') (last work' result'))
    go true q h = absurd (h (inl (record { some = omega arith; few = omega arith })))
    go false true h = absurd (h (inl (record { some = omega arith; few = omega arith })))
    go false false h =
        old_kept Outcome EarlyOr12 (λ x. x.0) (c (length work) (length result)) (eigen_entered n limit edition a) (eigen_entered n limit edition a) (c (length work) (length result), work, result) (c (length work) (length result), work', result')
        (edition_checked edition (length a) (n * n) (length work) n (length result) (n + n * n)).early (λ t. refl) refl h
        ∙ (λ i. cond (passed (c (lw i) (lr i))) (eigen_entered n limit edition a) (c (lw i) (lr i), work', result'))
