-- A run made by a start and steps, its arrays untouched between, ends as the one call does, after at most n times limit steps; none of its calls is refused with 13 but a finish too early. Of every input. Laws only.
use Rattle.std.specs.Prelude.{◌≡◌, true, false, ℕ, ◌*◌, eqb}
use Rattle.std.proofs.Math.Path.{refl, ap, subst}
use Rattle.std.proofs.Common.{sym, ◌∙◌, true≢false, mul-le-mul_left, arith}
use Rattle.grid.specs.Real.{Vec}
use Rattle.answers.specs.Answers.{done, refused}
use Rattle.answers.specs.declared.Answer.{Answer}
use Rattle.eigen_tql2_pass.specs.declared.Run.{Run}
use Rattle.eigen_symmetric_eigen.specs.SymmetricEigen.{eigen}
use Rattle.eigen_theorems.proofs.Taken.{never_13}
use Rattle.eigen_steps.specs.Steps.{Outcome, running, recorded, answering, started, stepped, finished}
use Rattle.eigen_steps.specs.declared.EigenRun.{EigenRun}
use Rattle.eigen_theorems.specs.StepsRuns.{after, arrived, reply, Reached}
use Rattle.eigen_theorems.proofs.StepsMade.{Made, over, runs, started_made, walk_made, finish_made, finish_ends, stays_over, finish_over, early_made, reach, limit_of_lem}

made : (k n limit edition : ℕ) (a work result : Vec) → Made n limit edition (eigen n limit edition a work result) (after k n limit edition a work result)
unfolding after
made k n limit edition a work result = walk_made n limit edition _ k (started n limit edition a work result) (started_made n limit edition a work result)

-- t is what a start and k steps come to
module _ (n limit edition k : ℕ) (a work result : Vec) where
  t : Outcome
  t = after k n limit edition a work result

  -- **steps_end_as_one_call**: once no step is left, a finish gives the one call's answer, work and result
  pub steps_end_as_one_call : arrived (after k n limit edition a work result).0 ≡ true
      → (let (q, w, r) = after k n limit edition a work result in reply (finished q w r) ≡ eigen n limit edition a work result)
  steps_end_as_one_call = finish_made n limit edition _ (after k n limit edition a work result) (made k n limit edition a work result)

  -- and then the run has ended
  pub finish_ends_it : arrived (after k n limit edition a work result).0 ≡ true
      → (let (q, w, r) = after k n limit edition a work result in running (finished q w r).0 ≡ false)
  finish_ends_it = finish_ends n limit edition _ (after k n limit edition a work result) (made k n limit edition a work result)

  -- **never_refused**: no start and no step is refused with 13
  pub never_refused : (after k n limit edition a work result).0.answer.answer ≡ 13 → ⊥
  unfolding t
  never_refused h = go (made k n limit edition a work result)
    where
      go : Made n limit edition (eigen n limit edition a work result) t → ⊥
      go (over g e) = never_13 n limit edition a work result (ap (λ (x : Answer × Vec × Vec). x.0.answer) (sym e) ∙ h)
      go (runs x e f o b w) = omega (arith, h, ap (λ (u : Outcome). u.0.answer.answer) e)

  -- nor a finish once no step is left
  pub finish_in_time : arrived (after k n limit edition a work result).0 ≡ true
      → (let (q, w, r) = after k n limit edition a work result in (finished q w r).0.answer.answer ≡ 13 → ⊥)
  finish_in_time h q = never_13 n limit edition a work result (ap (λ (x : Answer × Vec × Vec). x.0.answer) (sym (steps_end_as_one_call h)) ∙ q)

  -- a finish before the last l is done is, and changes nothing but the answer
  pub early_finish : arrived (after k n limit edition a work result).0 ≡ false
      → (let (q, w, r) = after k n limit edition a work result in finished q w r ≡ (answering q (refused 13 0), w, r))
  early_finish = early_made n limit edition _ (after k n limit edition a work result) (made k n limit edition a work result)

  -- while the run goes on each call answers 0, place and index 0, and the count so far
  pub while_going : running (after k n limit edition a work result).0 ≡ true
      → (after k n limit edition a work result).0.answer ≡ done (after k n limit edition a work result).0.run.count
  unfolding t
  while_going g = go (made k n limit edition a work result)
    where
      go : Made n limit edition (eigen n limit edition a work result) t → t.0.answer ≡ done t.0.run.count
      go (over q e) = absurd (true≢false (sym g ∙ q))
      go (runs x e f o b w) = subst (λ (u : Outcome). u.0.answer ≡ done u.0.run.count) (sym e) refl

-- **steps_arrive**: after n times limit steps at the latest no step is left
pub steps_arrive : (n limit edition : ℕ) (a work result : Vec) → Reached (n * limit) (started n limit edition a work result)
steps_arrive n limit edition a work result =
    reach n limit edition _ (n * limit) (started n limit edition a work result) (started_made n limit edition a work result) (λ h. omega arith)

-- so after n times 60, whatever the limit: a limit over 60 ends the run at its start
pub steps_at_most : (n limit edition : ℕ) (a work result : Vec) → Reached (n * 60) (started n limit edition a work result)
steps_at_most n limit edition a work result =
    let m = started_made n limit edition a work result in
    reach n limit edition _ (n * 60) (started n limit edition a work result) m (λ h. omega (arith, mul-le-mul_left n (limit_of_lem n limit edition _ _ m h)))

-- **ended_repeats**: a step or a finish of a run that has ended, made in whatever way, repeats its answer and touches nothing
pub ended_repeats : (q : EigenRun) (work result : Vec) → running q ≡ false → (stepped q work result ≡ (q, work, result)) × (finished q work result ≡ (q, work, result))
ended_repeats q work result g = (stays_over (q, work, result) g, finish_over (q, work, result) g)

-- **answer_forgotten**: of a run that goes on, made in whatever way, the answer that it carries, which is all that 6 and 13 change, has no part in what the next call gives
pub answer_forgotten : (n limit edition : ℕ) (r : Run) (x y : Answer) (work result : Vec) → eqb r.stop 0 ≡ true
    → (stepped (recorded n limit edition r x) work result ≡ stepped (recorded n limit edition r y) work result)
    × (finished (recorded n limit edition r x) work result ≡ finished (recorded n limit edition r y) work result)
unfolding stepped finished
answer_forgotten n limit edition r x y work result g = (rw g, rw g)
