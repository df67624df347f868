-- Any outcome but refusal 9 is the outcome at every higher limit up to 60 (`svd_limit_raised`). Laws only.
use Rattle.std.specs.Prelude.{◌≡◌, refl, Bool, true, false, cond, not, ℕ, ◌≤◌, eqb, length}
use Rattle.std.proofs.Common.{sym, ap, subst, arith, eqb-true}
use Rattle.grid.specs.LoopLaws.{rounds_limit}
use Rattle.grid.specs.Real.{Vec, zeros}
use Rattle.leaves.specs.Scan.{first_bad}
use Rattle.answers.specs.Answers.{passed, least, refusal7}
use Rattle.answers.proofs.OutcomeLaws.{Settled, always, by_test}
use Rattle.answers.specs.declared.Answer.{Answer}
use Rattle.answers.specs.ChecksLaws.{right_limit}
use Rattle.svd_jacobi_svd_tall.specs.JacobiSvdTall.{going_after, swept, ended, sweeps, finished, jacobi}
use Rattle.svd_sort_svd_descending.specs.Result.{longest, sorted_out}
use Rattle.svd.specs.Svd.{loaded, checks, ran, svd}
use Rattle.svd_theorems.specs.Outcome.{Outcome}

abbrev answer2 : Answer × Vec → ℕ
answer2 x = x.0.answer

abbrev answer3 : Outcome → ℕ
answer3 x = x.0.answer

jacobi_limit : (rows cols k l : ℕ) (w : Vec) → 1 ≤ k → k ≤ l → Settled answer2 (jacobi rows cols k w) (jacobi rows cols l w)
unfolding jacobi sweeps
jacobi_limit rows cols k l w z p = record {
  same = λ h. ap (λ (x : Answer × Vec). cond (passed x.0) (finished rows cols x) x) (rounds_limit (swept rows cols) ended k l (going_after 0, w) z p (over (eqb x.0.answer 9) refl h));
}
  where
    x : Answer × Vec
    x = sweeps rows cols k w

    -- what is not refused with 9 has ended
    over : (b : Bool) → eqb x.0.answer 9 ≡ b → ((cond (passed x.0) (finished rows cols x) x).0.answer ≡ 9 → ⊥) → not (eqb x.0.answer 9) ≡ true
    over true e h =
        let n : x.0.answer ≡ 9 = eqb-true x.0.answer 9 e in
        absurd (h (subst (λ (j : ℕ). (cond (eqb j 0) (finished rows cols x) x).0.answer ≡ 9) (sym n) n))
    over false e h = ap not e

ran_limit : (m n want_u want_vt k l : ℕ) (matrix work result : Vec) → 1 ≤ k → k ≤ l → Settled answer3 (ran m n want_u want_vt k matrix work result) (ran m n want_u want_vt l matrix work result)
unfolding ran
ran_limit m n want_u want_vt k l matrix work result z p = record {
  same = λ h. ap (λ (x : Answer × Vec). (x.0, zeros (length work), cond (passed x.0) (sorted_out m n want_u want_vt x.1) result))
      ((jacobi_limit (longest m n) (least m n) k l (loaded m n matrix) z p).same h);
}

checks_limit : (m n want_u want_vt k l a b c : ℕ) → 1 ≤ k → k ≤ l → l ≤ 60 → checks m n want_u want_vt k a b c ≡ checks m n want_u want_vt l a b c
unfolding checks
checks_limit m n want_u want_vt k l a b c z p q = rw (right_limit k z (omega arith), right_limit l (omega arith) q)

svd_limit : (m n want_u want_vt k l : ℕ) (matrix work result : Vec) → 1 ≤ k → k ≤ l → l ≤ 60
    → Settled answer3 (svd m n want_u want_vt k matrix work result) (svd m n want_u want_vt l matrix work result)
unfolding svd
svd_limit m n want_u want_vt k l matrix work result z p q =
    let e = checks_limit m n want_u want_vt k l (length matrix) (length work) (length result) z p q in
    by_test answer3 (passed (checks m n want_u want_vt k (length matrix) (length work) (length result))) _ (ap passed e)
    (by_test answer3 (passed (refusal7 (first_bad matrix))) _ refl (ran_limit m n want_u want_vt k l matrix (zeros (length work)) (zeros (length result)) z p) (always answer3))
    (record { same = λ h. ap (λ (c : Answer). (c, work, result)) (sym e) })

-- **svd_limit_raised**: any outcome but refusal 9 is the outcome at every higher limit up to 60
pub svd_limit_raised : (m n want_u want_vt k l : ℕ) (matrix work result : Vec) → 1 ≤ k → k ≤ l → l ≤ 60 → ((svd m n want_u want_vt k matrix work result).0.answer ≡ 9 → ⊥)
    → svd m n want_u want_vt l matrix work result ≡ svd m n want_u want_vt k matrix work result
svd_limit_raised m n want_u want_vt k l matrix work result z p q = (svd_limit m n want_u want_vt k l matrix work result z p q).same
