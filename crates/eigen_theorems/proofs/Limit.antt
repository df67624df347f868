-- An outcome of `symmetric_eigen` that is not refusal 9 is the outcome at every higher limit (`eigen_limit`). Laws only.
use Rattle.std.specs.Prelude.{refl, not, ℕ, ◌+◌, ◌*◌, ◌≤◌, ltb, eqb, length, is_some}
use Rattle.std.proofs.Common.{sym, ap, ◌∙◌, arith}
use Rattle.grid.specs.Real.{Vec}
use Rattle.leaves.specs.Scan.{first_bad_lower}
use Rattle.answers.specs.Answers.{passed, refusal7}
use Rattle.answers.proofs.OutcomeLaws.{Settled, always, by_test}
use Rattle.answers.specs.declared.Answer.{Answer}
use Rattle.answers.specs.Checks.{limit_good, fitting_edition}
use Rattle.answers.specs.ChecksLaws.{right_limit}
use Rattle.eigen_theorems.specs.Tql2Limit.{tql2_limit}
use Rattle.eigen_symmetric_eigen.specs.AfterTred2.{mark0, after_tred}
use Rattle.eigen_symmetric_eigen.specs.SymmetricEigen.{decomposed, given, eigen_entered, eigen}
use Rattle.eigen_theorems.specs.Outcome.{Outcome}
use Rattle.eigen_theorems.proofs.OutcomeLaws.{given_answer}

abbrev pub answer3 : Outcome → ℕ
answer3 x = x.0.answer

abbrev answer4 : Answer × Vec × Vec × Vec → ℕ
answer4 x = x.0.answer

tred_limit : (n edition k m : ℕ) (x : Vec × Vec × Vec) → 1 ≤ k → k ≤ m → Settled answer4 (after_tred n k edition x) (after_tred n m edition x)
unfolding after_tred
tred_limit n edition k m x z l = by_test answer4 (is_some (mark0 n x.0 x.1 x.2)) _ refl (always answer4) (record { same = tql2_limit n edition k m x z l })

given_limit : (n : ℕ) (x y : Answer × Vec × Vec × Vec) → Settled answer4 x y → Settled answer3 (given n x) (given n y)
given_limit n x y s = record { same = λ h. ap (given n) (s.same (λ e. h (ap (λ (t : Answer). t.answer) (given_answer n x) ∙ e))) }

entered_limit : (n edition k m : ℕ) (a : Vec) → 1 ≤ k → k ≤ m → Settled answer3 (eigen_entered n k edition a) (eigen_entered n m edition a)
unfolding eigen_entered decomposed
entered_limit n edition k m a z l =
    by_test answer3 (passed (refusal7 (first_bad_lower n a))) _ refl
    (by_test answer3 (eqb n 0) _ refl (always answer3) (given_limit n _ _ (tred_limit n edition k m _ z l)))
    (always answer3)

pub eigen_limit : (n edition k m : ℕ) (a work result : Vec) → 1 ≤ k → k ≤ m → m ≤ 60 → Settled answer3 (eigen n k edition a work result) (eigen n m edition a work result)
unfolding eigen
eigen_limit n edition k m a work result z l s =
    by_test answer3 (ltb 256 n) _ refl (always answer3)
    (by_test answer3 (not (limit_good k)) _ (ap not (right_limit k z (omega arith) ∙ sym (right_limit m (omega arith) s))) (always answer3)
    (by_test answer3 (passed (fitting_edition edition (length a) (n * n) (length work) n (length result) (n + n * n))) _ refl (entered_limit n edition k m a z l) (always answer3)))
