-- What the answer array held before changes nothing but what a refusal 1 to 6 leaves as it was. Laws only.
use Rattle.std.specs.Prelude.{◌≡◌, refl, cond, ◌||◌, ℕ, ◌≤◌, ltb, length}
use Rattle.std.proofs.Common.{ap, ◌∙◌, arith}
use Rattle.grid.specs.Real.{Vec}
use Rattle.leaves.specs.Scan.{first_bad}
use Rattle.answers.specs.Answers.{passed, unless_bad}
use Rattle.answers.specs.Early.{Early}
use Rattle.answers.proofs.OutcomeLaws.{refuse_few, same_bad, old}
use Rattle.answers.specs.declared.Answer.{Answer}
use Rattle.answers.specs.ChecksLaws.{lengths_few}
use Rattle.qr_q.specs.QrQ.{checks, columns, qr_q}

qr_checks_few : (m k a x : ℕ) → (checks m k a x).answer ≤ 6
unfolding checks
qr_checks_few m k a x = refuse_few (ltb 256 m || ltb 256 k) 1 0 _ (omega arith) (lengths_few a _ x _ 0 0)

pub qr_q_old_contents : (m k : ℕ) (a x y : Vec) → length x ≡ length y → (Early (qr_q m k a x).0 → ⊥) → qr_q m k a x ≡ qr_q m k a y
unfolding qr_q
qr_q_old_contents m k a x y l h =
    old (Answer × Vec) (λ x. x.0) (checks m k (length a) (length x)) _ (unless_bad (first_bad a) y (columns m k a k)) _ (checks m k (length a) (length x), y)
    (qr_checks_few m k (length a) (length x))
    (λ t. same_bad (first_bad a) x y _ _ l refl) refl refl h
    ∙ ap (λ (j : ℕ). cond (passed (checks m k (length a) j)) (unless_bad (first_bad a) y (columns m k a k)) (checks m k (length a) j, y)) l
