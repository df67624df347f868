-- What is proved of `symmetric_eigen` in steps: s, u and f are what a start, steps and a finish came back with. Laws only.
use Rattle.std.specs.Prelude.{false, true, ◌≡◌, ◌*◌, ◌+◌, ◌≤◌, suc, ℕ, eqb}
use Rattle.answers.specs.Answers.{done, refused}
use Rattle.answers.specs.declared.Answer.{Answer}
use Rattle.eigen_symmetric_eigen.specs.SymmetricEigen.{eigen}
use Rattle.grid.specs.Real.{Vec}
use Rattle.eigen_tql2_pass.specs.declared.Run.{Run}
use Rattle.eigen_theorems.proofs.StepCalls.{Stepping, early_finish_calls, ended_repeats_calls, finish_one, never_refused_calls, start_one, step_one, steps_end_as_one_call_calls, while_going_calls}
use Rattle.eigen_theorems.proofs.StepsEnd.{answer_forgotten, finish_ends_it, finish_in_time, steps_arrive, steps_at_most}
use Rattle.eigen_theorems.proofs.StepsPasses.{passes_by_steps, start_runs_none, step_runs_one, step_runs_one_at_most, steps_not_fewer}
use Rattle.eigen_theorems.specs.StepsRuns.{Reached, after, arrived, reply}
use Rattle.eigen_steps.specs.Steps.{Outcome, answering, finished, recorded, running, started, stepped}
use Rattle.eigen_steps.specs.declared.EigenRun.{EigenRun}

-- Two outcomes of a start that satisfy its promise are one.
pub t2_start_one : (n limit edition : ℕ) (a work result : Vec) (s t : Outcome) → s ≡ started n limit edition a work result
    → t ≡ started n limit edition a work result → s ≡ t
t2_start_one = start_one

-- Two outcomes of a step that satisfy its promise are one.
pub t2_step_one : (q : EigenRun) (work result : Vec) (s t : Outcome) → s ≡ stepped q work result → t ≡ stepped q work result → s ≡ t
t2_step_one = step_one

-- Two outcomes of a finish that satisfy its promise are one.
pub t2_finish_one : (q : EigenRun) (work result : Vec) (s t : Outcome) → s ≡ finished q work result → t ≡ finished q work result → s ≡ t
t2_finish_one = finish_one

-- A start, then steps until the last l is done or the run has ended, then a finish, the arrays untouched between, gives exactly the one call's four numbers and arrays.
pub t29_steps_end_as_one_call : (n limit edition k : ℕ) (a work result : Vec) (s u : Outcome) (p : s ≡ started n limit edition a work result) (w : Stepping k s u)
    → arrived u.0 ≡ true → (f : Outcome) → f ≡ finished u.0 u.1 u.2 → (o : Answer × Vec × Vec) → o ≡ eigen n limit edition a work result
    → reply f ≡ o
t29_steps_end_as_one_call = steps_end_as_one_call_calls

-- After such a finish the run has ended.
pub t29_finish_ends_it : (n limit edition k : ℕ) (a work result : Vec) → arrived (after k n limit edition a work result).0 ≡ true
    → (let (q, w, r) = after k n limit edition a work result in running (finished q w r).0 ≡ false)
t29_finish_ends_it = finish_ends_it

-- n · limit steps or fewer are enough: then no step is left.
pub t29_steps_arrive : (n limit edition : ℕ) (a work result : Vec) → Reached (n * limit) (started n limit edition a work result)
t29_steps_arrive = steps_arrive

-- And 60 · n or fewer, whatever the limit.
pub t29_steps_at_most : (n limit edition : ℕ) (a work result : Vec) → Reached (n * 60) (started n limit edition a work result)
t29_steps_at_most = steps_at_most

-- After a start and any number of steps, the arrays untouched between, the answer is not 13.
pub t30_never_refused : (n limit edition k : ℕ) (a work result : Vec) (s u : Outcome) (p : s ≡ started n limit edition a work result) (w : Stepping k s u)
    → u.0.answer.answer ≡ 13 → ⊥
t30_never_refused = never_refused_calls

-- Nor is it after a finish where no step is left.
pub t30_finish_in_time : (n limit edition k : ℕ) (a work result : Vec) → arrived (after k n limit edition a work result).0 ≡ true
    → (let (q, w, r) = after k n limit edition a work result in (finished q w r).0.answer.answer ≡ 13 → ⊥)
t30_finish_in_time = finish_in_time

-- A finish where steps are left is refused with 13, and changes the answer alone.
pub t30_early_finish : (n limit edition k : ℕ) (a work result : Vec) (s u : Outcome) (p : s ≡ started n limit edition a work result) (w : Stepping k s u)
    → arrived u.0 ≡ false → (f : Outcome) → f ≡ finished u.0 u.1 u.2 → f ≡ (answering u.0 (refused 13 0), u.1, u.2)
t30_early_finish = early_finish_calls

-- While such a run goes on its answer is 0 with place and index 0 and the count.
pub t30_while_going : (n limit edition k : ℕ) (a work result : Vec) (s u : Outcome) (p : s ≡ started n limit edition a work result) (w : Stepping k s u)
    → running u.0 ≡ true → u.0.answer ≡ done u.0.run.count
t30_while_going = while_going_calls

-- A start counts no pass, whatever it is given: neither its record nor its answer has one.
pub t37_start_runs_none : (n limit edition : ℕ) (a work result : Vec)
    → ((started n limit edition a work result).0.run.count ≡ 0) × ((started n limit edition a work result).0.answer.count ≡ 0)
t37_start_runs_none = start_runs_none

-- A step counts one pass more at the most, of every record, made in whatever way, and all arrays.
pub t37_step_runs_one_at_most : (q : EigenRun) (work result : Vec)
    → (q.run.count ≤ (stepped q work result).0.run.count) × ((stepped q work result).0.run.count ≤ q.run.count + 1)
t37_step_runs_one_at_most = step_runs_one_at_most

-- A step of a run from a start, with steps left before it and behind it, counts exactly one more.
pub t37_step_runs_one : (k n limit edition : ℕ) (a work result : Vec) → arrived (after k n limit edition a work result).0 ≡ false
    → arrived (after (suc k) n limit edition a work result).0 ≡ false
    → (after (suc k) n limit edition a work result).0.run.count ≡ (after k n limit edition a work result).0.run.count + 1
t37_step_runs_one = step_runs_one

-- After a start and k steps the count is k at the most.
pub t37_passes_by_steps : (k n limit edition : ℕ) (a work result : Vec) → (after k n limit edition a work result).0.run.count ≤ k
t37_passes_by_steps = passes_by_steps

-- Where no step is left after k of them, the one call's count is k at the most: a run in steps has at least as many steps as the one call counts passes.
pub t37_steps_not_fewer : (n limit edition k : ℕ) (a work result : Vec) → arrived (after k n limit edition a work result).0 ≡ true
    → (eigen n limit edition a work result).0.count ≤ k
t37_steps_not_fewer = steps_not_fewer

-- A step or a finish of a run that has ended, however it was made, gives the record and both arrays as they were.
pub t31_ended_repeats : (q : EigenRun) (work result : Vec) (s f : Outcome) → running q ≡ false → s ≡ stepped q work result
    → f ≡ finished q work result → (s ≡ (q, work, result)) × (f ≡ (q, work, result))
t31_ended_repeats = ended_repeats_calls

-- Of a run that goes on, the answer that its record carries has no part in what the next step or finish gives.
pub t31_answer_forgotten : (n limit edition : ℕ) (r : Run) (x y : Answer) (work result : Vec) → eqb r.stop 0 ≡ true
    → (stepped (recorded n limit edition r x) work result ≡ stepped (recorded n limit edition r y) work result) × (finished (recorded n limit edition r x) work result ≡ finished (recorded n limit edition r y) work result)
t31_answer_forgotten = answer_forgotten
