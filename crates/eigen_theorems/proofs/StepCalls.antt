-- Calls of a start, of steps and of a finish that meet their promises: each of s, t, u, f is what one came back with. Laws, and what k steps are (`Stepping`).
use Rattle.std.specs.Prelude.{◌≡◌, refl, true, false, ℕ, zero, suc}
use Rattle.std.proofs.Common.{sym, ◌∙◌, subst}
use Rattle.std.proofs.Math.Path.{ap}
use Rattle.grid.specs.Real.{Vec}
use Rattle.answers.specs.Answers.{done, refused}
use Rattle.answers.specs.declared.Answer.{Answer}
use Rattle.eigen_symmetric_eigen.specs.SymmetricEigen.{eigen}
use Rattle.eigen_steps.specs.Steps.{Outcome, running, answering, started, stepped, finished}
use Rattle.eigen_steps.specs.declared.EigenRun.{EigenRun}
use Rattle.eigen_theorems.specs.StepsRuns.{walked, after, arrived, reply}
use Rattle.eigen_theorems.proofs.StepsEnd.{steps_end_as_one_call, never_refused, early_finish, while_going, ended_repeats}

-- ---- two outcomes that satisfy a promise are one

pub start_one : (n limit edition : ℕ) (a work result : Vec) (s t : Outcome) → s ≡ started n limit edition a work result → t ≡ started n limit edition a work result → s ≡ t
start_one n limit edition a work result s t p q = p ∙ sym q

pub step_one : (q : EigenRun) (work result : Vec) (s t : Outcome) → s ≡ stepped q work result → t ≡ stepped q work result → s ≡ t
step_one q work result s t p r = p ∙ sym r

pub finish_one : (q : EigenRun) (work result : Vec) (s t : Outcome) → s ≡ finished q work result → t ≡ finished q work result → s ≡ t
finish_one q work result s t p r = p ∙ sym r

-- ---- k steps one after the other, the arrays untouched between: from t to u

pub data Stepping : ℕ → Outcome → Outcome → Type 0 where
  none : {t : Outcome} → Stepping zero t t
  more : {k : ℕ} {t s u : Outcome} → s ≡ stepped t.0 t.1 t.2 → Stepping k s u → Stepping (suc k) t u

stepping_is : (k : ℕ) (t u : Outcome) → Stepping k t u → u ≡ walked k t
unfolding walked
stepping_is zero t u none = refl
stepping_is (suc k) t u (more {s = s} e w) = stepping_is k s u w ∙ ap (walked k) e

module _ (n limit edition k : ℕ) (a work result : Vec) (s u : Outcome) (p : s ≡ started n limit edition a work result) (w : Stepping k s u) where
  is : u ≡ after k n limit edition a work result
  unfolding after
  is = stepping_is k s u w ∙ ap (walked k) p

  -- o is what the one call came back with
  pub steps_end_as_one_call_calls : arrived u.0 ≡ true → (f : Outcome) → f ≡ finished u.0 u.1 u.2 → (o : Answer × Vec × Vec) → o ≡ eigen n limit edition a work result → reply f ≡ o
  steps_end_as_one_call_calls h f e o c =
      ap reply e
      ∙ ap (λ (x : Outcome). reply (finished x.0 x.1 x.2)) is
      ∙ steps_end_as_one_call n limit edition k a work result (subst (λ (x : Outcome). arrived x.0 ≡ true) is h)
      ∙ sym c

  pub never_refused_calls : u.0.answer.answer ≡ 13 → ⊥
  never_refused_calls h = never_refused n limit edition k a work result (ap (λ (x : Outcome). x.0.answer.answer) (sym is) ∙ h)

  pub early_finish_calls : arrived u.0 ≡ false → (f : Outcome) → f ≡ finished u.0 u.1 u.2 → f ≡ (answering u.0 (refused 13 0), u.1, u.2)
  early_finish_calls h f e =
      e ∙ subst (λ (x : Outcome). arrived x.0 ≡ false → finished x.0 x.1 x.2 ≡ (answering x.0 (refused 13 0), x.1, x.2)) (sym is) (early_finish n limit edition k a work result) h

  pub while_going_calls : running u.0 ≡ true → u.0.answer ≡ done u.0.run.count
  while_going_calls = subst (λ (x : Outcome). running x.0 ≡ true → x.0.answer ≡ done x.0.run.count) (sym is) (while_going n limit edition k a work result)

pub ended_repeats_calls : (q : EigenRun) (work result : Vec) (s f : Outcome) → running q ≡ false → s ≡ stepped q work result → f ≡ finished q work result
    → (s ≡ (q, work, result)) × (f ≡ (q, work, result))
ended_repeats_calls q work result s f g p r =
    let e = ended_repeats q work result g in
    (p ∙ e.0, r ∙ e.1)
