-- What the checks before a run say of the call: where they pass, and what is answered where they refuse. Laws only.
use Rattle.std.specs.Prelude.{◌≡◌, refl, Bool, true, false, cond, not, ℕ, ◌+◌, ◌*◌, ◌≤◌, ltb}
use Rattle.std.proofs.Common.{ap, arith, ltb-false}
use Rattle.answers.specs.Answers.{done, refused, passed}
use Rattle.answers.specs.declared.Answer.{Answer}
use Rattle.answers.specs.Checks.{limit_good, fitting_edition}
use Rattle.answers.specs.ChecksLaws.{limit_right}
use Rattle.answers.proofs.EditionLaws.{fitting_edition_right}
use Rattle.eigen_symmetric_eigen.specs.SymmetricEigen.{checks}

-- a call that answers f of its first refusal, else t
pub by_checks : {S : Type 0} (f : Answer → S) (t : S) (n limit edition matrix work result : ℕ)
    → cond (ltb 256 n) (f (refused 1 0)) (cond (not (limit_good limit)) (f (refused 2 0))
    (cond (passed (fitting_edition edition matrix (n * n) work n result (n + n * n))) t (f (fitting_edition edition matrix (n * n) work n result (n + n * n)))))
    ≡ cond (passed (checks n limit edition matrix work result)) t (f (checks n limit edition matrix work result))
unfolding checks
by_checks {S} f t n limit edition matrix work result = go (ltb 256 n) (limit_good limit)
  where
    x : Answer
    x = fitting_edition edition matrix (n * n) work n result (n + n * n)

    first : Bool → Bool → Answer
    first p q = cond p (refused 1 0) (cond (not q) (refused 2 0) x)

    go : (p q : Bool) → cond p (f (refused 1 0)) (cond (not q) (f (refused 2 0)) (cond (passed x) t (f x))) ≡ cond (passed (first p q)) t (f (first p q))
    go true q = refl
    go false false = refl
    go false true = refl

-- what they leave
pub checks_right : (n limit edition matrix work result : ℕ) → checks n limit edition matrix work result ≡ done 0
    → (n ≤ 256) × (limit ≤ 60) × (matrix ≡ n * n) × (work ≡ n) × (result ≡ n + n * n)
unfolding checks
checks_right n limit edition matrix work result e = go (ltb 256 n) refl (limit_good limit) refl (ap (λ (x : Answer). x.answer) e)
  where
    x : Answer
    x = fitting_edition edition matrix (n * n) work n result (n + n * n)

    go : (p : Bool) → ltb 256 n ≡ p → (q : Bool) → limit_good limit ≡ q → (cond p (refused 1 0) (cond (not q) (refused 2 0) x)).answer ≡ 0
        → (n ≤ 256) × (limit ≤ 60) × (matrix ≡ n * n) × (work ≡ n) × (result ≡ n + n * n)
    go true g q h r = absurd (omega arith)
    go false g false h r = absurd (omega arith)
    go false g true h r =
        let l = fitting_edition_right edition matrix (n * n) work n result (n + n * n) r in
        (ltb-false 256 n g, (limit_right limit h).1, l.1, l.2, l.3)
