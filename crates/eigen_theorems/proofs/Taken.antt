-- What a call that is taken answers, and so what no call does. Laws only.
use Rattle.std.specs.Prelude.{◌≡◌, refl, ℕ, length}
use Rattle.std.proofs.Common.{sym, subst, inl, inr, ⊎_elim, arith}
use Rattle.grid.specs.Real.{Vec, at}
use Rattle.leaves.specs.ScanLaws.{first_class}
use Rattle.answers.specs.declared.Answer.{Answer}
use Rattle.eigen_theorems.specs.Tql2Outcome.{list1, list2, RunGives, well, at_mark2, at_mark1, at_limit}
use Rattle.eigen_theorems.proofs.Tql2OutcomeLaws.{mark1_sees}
use Rattle.eigen_symmetric_eigen.specs.SymmetricEigen.{eigen}
use Rattle.eigen_theorems.specs.Outcome.{Outcome, RunAnswer, Says, nothing, at_mark0, runs, reduced, list0}
use Rattle.eigen_theorems.proofs.OutcomeLaws.{says, given_answer}
use Rattle.eigen_theorems.proofs.Result.{checked}

gives_ran : (n limit edition : ℕ) (x : Vec × Vec × Vec) (o : Answer × Vec × Vec × Vec) → RunGives n limit edition x o → RunAnswer o.0
gives_ran n limit edition x o (well r w) = inl refl
gives_ran n limit edition x o (at_mark2 {c = c} {b = b} {i = i} {y = y} r f) = inr (inr (first_class (at (list2 n y)) (length (list2 n y)) i b f))
gives_ran n limit edition x o (at_mark1 {l = l} {c = c} {k = k} {b = b} {i = i} {y = y} {z = z} h r t) = inr (inr (first_class (at (list1 z)) (length (list1 z)) i b (mark1_sees n limit edition l t)))
gives_ran n limit edition x o (at_limit h r t) = inr (inl refl)

pub says_ran : (n limit edition : ℕ) (a : Vec) (o : Outcome) → Says n limit edition a o → RunAnswer o.0
says_ran n limit edition a o (nothing z) = inl refl
says_ran n limit edition a o (at_mark0 {b = b} {i = i} h) = inr (inr (first_class (at (list0 n (reduced n a))) (length (list0 n (reduced n a))) i b h.seen))
says_ran n limit edition a o (runs {o = p} z r t) = subst RunAnswer (sym (given_answer n p)) (gives_ran n limit edition (reduced n a) p t)

-- no call answers 13
pub never_13 : (n limit edition : ℕ) (a work result : Vec) → (eigen n limit edition a work result).0.answer ≡ 13 → ⊥
never_13 n limit edition a work result h =
    ⊎_elim (λ f. ran (eigen n limit edition a work result).0 h (says_ran n limit edition a (eigen n limit edition a work result) (says n limit edition a work result f))) (λ r. ⊎_elim (λ l. omega arith) (λ l. omega arith) r.few) (checked n limit edition a work result)
  where
    ran : (x : Answer) → x.answer ≡ 13 → RunAnswer x → ⊥
    ran x h = ⊎_elim (λ e. omega arith) (⊎_elim (λ e. omega arith) (⊎_elim (λ e. omega arith) (λ e. omega arith)))
