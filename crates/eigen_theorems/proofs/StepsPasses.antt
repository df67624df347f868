-- How fast a run in steps goes: a start runs no pass, a step one at the most, and exactly one where steps are left behind it; so a run is not over before as many steps as the one call runs passes. Laws only.
use Rattle.leaves.specs.declared.Bad.{Bad}
use Rattle.std.specs.Prelude.{◌≡◌, refl, Bool, true, false, cond, not, ◌&&◌, ◌++◌, ltb, eqb, length, Option, Some, None, is_some}
use Rattle.std.proofs.Common.{ap, ◌∙◌, subst, arith}
use Prim.Native.Nat.{ℕ, zero, suc, ◌+◌, ◌-◌, ◌*◌, ◌≤◌}
use Rattle.grid.specs.Real.{Vec, zeros}
use Rattle.leaves.specs.Scan.{first_bad_lower}
use Rattle.answers.specs.Answers.{passed, refusal7, marked}
use Rattle.answers.specs.declared.Answer.{Answer}
use Rattle.answers.specs.Checks.{limit_good, lengths, fitting_edition, edition_good}
use Rattle.eigen_tql2_pass.specs.Pass.{pass}
use Rattle.eigen_tql2_pass.specs.declared.Run.{Run}
use Rattle.eigen_tql2.specs.LStartEnd.{State, opened, closed, ended}
use Rattle.eigen_tql2.specs.Finish.{mark2, ql_finished}
use Rattle.eigen_symmetric_eigen.specs.SymmetricEigen.{given, eigen}
use Rattle.eigen_tql2_step.specs.SkipSettled.{gone_on, come, skipped, found_l}
use Rattle.eigen_tql2_step.specs.Advance.{step}
use Rattle.eigen_tql2_step.specs.SkipSettledLaws.{undecided, decided}
use Rattle.eigen_tql2_step.specs.Checks.{checked, in_range, sound}
use Rattle.eigen_steps.specs.Arrays.{state_of, closed_up}
use Rattle.eigen_steps.specs.Steps.{Outcome, running, begun, start_entered, started, moved, stepped, finished}
use Rattle.eigen_steps.specs.declared.EigenRun.{EigenRun}
use Rattle.eigen_theorems.specs.StepsRuns.{walked, after, arrived}
use Rattle.eigen_theorems.proofs.StepsMade.{gains, started_made, walk_made}
use Rattle.eigen_theorems.proofs.StepsEnd.{steps_end_as_one_call}
use Rattle.eigen_tred2_definition.specs.Tred2.{tred2}
use Rattle.eigen_symmetric_eigen.specs.Layout.{columns}
use Rattle.eigen_symmetric_eigen.specs.AfterTred2.{mark0}

either : {A : Type 0} (P : A → Type 0) (b : Bool) {x y : A} → P x → P y → P (cond b x y)
either P true p q = p
either P false p q = q

-- ---- one step of the machine

module _ (c : ℕ) where
  abbrev Has : State → Type 0
  Has x = x.0.count ≡ c

  closed_has : (x : State) → Has x → Has (closed x)
  unfolding closed
  closed_has x h = either Has (eqb x.0.stop 1) h (either Has (eqb x.0.stop 0) h h)

  onward_has : (x : State) → Has x → Has (gone_on x)
  onward_has x h = either (λ (r : Run). r.count ≡ c) (not (eqb x.0.stop 0)) h h

  come_has : (n : ℕ) (x : State) → Has x → Has (come n x)
  unfolding opened
  come_has n x h = h

  skipped_has : (n k : ℕ) (x : State) → Has x → Has (skipped n k x)
  unfolding skipped
  skipped_has n zero x h = h
  skipped_has n (suc k) x h = either Has (ended (come n x)) (skipped_has n k (gone_on (closed (come n x))) (onward_has (closed (come n x)) (closed_has (come n x) (come_has n x h)))) (come_has n x h)

  found_has : (n : ℕ) (x : State) → Has x → Has (found_l n x)
  unfolding found_l
  found_has n x h = either Has (eqb x.0.passes 0) (skipped_has n (n - x.0.l) x h) h

  decided_has : (limit : ℕ) (x : State) → Has x → Has (decided limit x)
  decided_has limit x h = either Has (undecided limit x.0) h (onward_has (closed x) (closed_has x h))

pass_has : (c n edition : ℕ) (x : State) → Has c x → Has (c + 1) (pass n edition x)
unfolding pass
pass_has c n edition x h = ap (λ (k : ℕ). k + 1) h

-- as many as before, or one more
abbrev Paced : ℕ → ℕ → Type 0
Paced c d = (c ≤ d) × (d ≤ c + 1)

paced_same : (c d : ℕ) → d ≡ c → Paced c d
paced_same c d h = (omega arith, omega arith)

paced_more : (c d : ℕ) → d ≡ c + 1 → Paced c d
paced_more c d h = (omega arith, omega arith)

machine_paced : (n limit edition : ℕ) (x : State) → Paced x.0.count (step n limit edition x).0.count
unfolding step
machine_paced n limit edition x =
    let c = x.0.count in
    let f = found_l n x in
    let h = found_has c n x refl in
    either (λ (y : State). Paced c y.0.count) (ltb f.0.l n)
    (paced_more c _ (decided_has (c + 1) limit (pass n edition f) (pass_has c n edition f h)))
    (paced_same c _ h)

-- ---- a start, and a step

lengths_none : (a wa b wb c wc : ℕ) → (lengths a wa b wb c wc).count ≡ 0
unfolding lengths
lengths_none a wa b wb c wc =
    let P : Answer → Type 0 = λ x. x.count ≡ 0 in
    either P (eqb a wa) (either P (eqb b wb) (either P (eqb c wc) refl refl) refl) refl

fitting_none : (e a wa b wb c wc : ℕ) → (fitting_edition e a wa b wb c wc).count ≡ 0
unfolding fitting_edition
fitting_none e a wa b wb c wc = either (λ (x : Answer). x.count ≡ 0) (not (edition_good e)) refl (lengths_none a wa b wb c wc)

refusal_none : (b : Option Bad) → (refusal7 b).count ≡ 0
refusal_none (Some bad) = refl
refusal_none None = refl

marked_count : (m c : ℕ) (b : Option Bad) → (marked m c b).count ≡ c
marked_count m c (Some bad) = refl
marked_count m c None = refl

-- no pass so far, by the record and by the answer that it carries
abbrev pub NoPass : Outcome → Type 0
NoPass t = (t.0.run.count ≡ 0) × (t.0.answer.count ≡ 0)

begun_none : (n limit edition : ℕ) (a : Vec) → NoPass (begun n limit edition a)
unfolding begun
begun_none n limit edition a =
    let x = tred2 n (columns n a, zeros n, zeros n) in
    let b = mark0 n x.0 x.1 x.2 in
    either NoPass (is_some b) (refl, marked_count 0 0 b) (refl, refl)

entered_none : (n limit edition : ℕ) (a : Vec) → NoPass (start_entered n limit edition a)
unfolding start_entered
entered_none n limit edition a =
    let x = refusal7 (first_bad_lower n a) in
    either NoPass (passed x) (either NoPass (eqb n 0) (refl, refl) (begun_none n limit edition a)) (refl, refusal_none (first_bad_lower n a))

-- **start_runs_none**: a start runs no pass, whatever it is given
pub start_runs_none : (n limit edition : ℕ) (a work result : Vec) → NoPass (started n limit edition a work result)
unfolding started
start_runs_none n limit edition a work result =
    let x = fitting_edition edition (length a) (n * n) (length work) n (length result) (n + n * n) in
    either NoPass (ltb 256 n) (refl, refl)
    (either NoPass (not (limit_good limit)) (refl, refl)
    (either NoPass (passed x) (entered_none n limit edition a) (refl, fitting_none edition (length a) (n * n) (length work) n (length result) (n + n * n))))

moved_paced : (n limit edition : ℕ) (r : Run) (work result : Vec) → Paced r.count (moved n limit edition r work result).0.run.count
unfolding moved
moved_paced n limit edition r work result =
    let y = step n limit edition (state_of n r work result) in
    let p = machine_paced n limit edition (state_of n r work result) in
    either (λ (t : Outcome). Paced r.count t.0.run.count) (eqb y.0.stop 0) p p

-- **step_runs_one_at_most**: of every record, made in whatever way, and all arrays
pub step_runs_one_at_most : (q : EigenRun) (work result : Vec) → (q.run.count ≤ (stepped q work result).0.run.count) × ((stepped q work result).0.run.count ≤ q.run.count + 1)
unfolding stepped
step_runs_one_at_most q work result =
    let c = q.run.count in
    let P : Outcome → Type 0 = λ t. Paced c t.0.run.count in
    either P (running q) (either P (passed (checked q.n q.limit q.edition q.run work result)) (moved_paced q.n q.limit q.edition q.run work result) (paced_same c c refl)) (paced_same c c refl)

-- ---- k steps

walked_count : (k : ℕ) (t : Outcome) → (walked k t).0.run.count ≤ t.0.run.count + k
unfolding walked
walked_count zero t = omega arith
walked_count (suc k) t = omega (arith, walked_count k (stepped t.0 t.1 t.2), (step_runs_one_at_most t.0 t.1 t.2).1)

-- **passes_by_steps**: a start and k steps have run k passes at the most
pub passes_by_steps : (k n limit edition : ℕ) (a work result : Vec) → (after k n limit edition a work result).0.run.count ≤ k
unfolding after
passes_by_steps k n limit edition a work result = omega (arith, walked_count k (started n limit edition a work result), (start_runs_none n limit edition a work result).0)

walked_next : (k : ℕ) (t : Outcome) → walked (suc k) t ≡ stepped (walked k t).0 (walked k t).1 (walked k t).2
unfolding walked
walked_next zero t = refl
walked_next (suc k) t = walked_next k (stepped t.0 t.1 t.2)

-- **step_runs_one**: a step with steps left before it and behind it runs exactly one
pub step_runs_one : (k n limit edition : ℕ) (a work result : Vec) → arrived (after k n limit edition a work result).0 ≡ false → arrived (after (suc k) n limit edition a work result).0 ≡ false
    → (after (suc k) n limit edition a work result).0.run.count ≡ (after k n limit edition a work result).0.run.count + 1
unfolding after
step_runs_one k n limit edition a work result g h =
    let s = started n limit edition a work result in
    let t = walked k s in
    let e : walked (suc k) s ≡ stepped t.0 t.1 t.2 = walked_next k s in
    ap (λ (u : Outcome). u.0.run.count) e
    ∙ gains n limit edition _ t (walk_made n limit edition _ k s (started_made n limit edition a work result)) g (subst (λ (u : Outcome). arrived u.0 ≡ false) e h)

-- ---- the answer's count

ql_count : (n : ℕ) (x : State) → (ql_finished n x).0.count ≡ x.0.count
unfolding ql_finished
ql_count n x =
    let P : Answer × Vec × Vec × Vec → Type 0 = λ t. t.0.count ≡ x.0.count in
    either P (eqb x.0.stop 9) refl
    (either P (not (eqb x.0.stop 0)) refl
    (either P (is_some (mark2 n x.1 x.2)) (marked_count 2 x.0.count (mark2 n x.1 x.2)) refl))

finished_count : (n : ℕ) (x : State) → (given n (ql_finished n x)).0.count ≡ x.0.count
unfolding given
finished_count n x = either (λ (t : Answer × Vec × Vec). t.0.count ≡ x.0.count) (passed (ql_finished n x).0) (ql_count n x) (ql_count n x)

closed_count : (n : ℕ) (r : Run) (work result : Vec) → (closed_up n r work result).0.count ≡ r.count
unfolding closed_up
closed_count n r work result = finished_count n (state_of n r work result)

-- the answer that a record carries counts no pass that the run has not
abbrev Counts : Outcome → Type 0
Counts t = t.0.answer.count ≤ t.0.run.count

at_most : (x y : ℕ) → x ≡ y → x ≤ y
at_most x y e = omega arith

none_most : (x y : ℕ) → x ≡ 0 → x ≤ y
none_most x y e = omega arith

checked_none : (n limit edition : ℕ) (r : Run) (work result : Vec) → (checked n limit edition r work result).count ≡ 0
unfolding checked
checked_none n limit edition r work result =
    let x = lengths (length work) n (length result) (n + n * n) 0 0 in
    let P : Answer → Type 0 = λ y. y.count ≡ 0 in
    either P (passed x) (either P (in_range n limit edition r && sound n r work result) refl refl) (lengths_none (length work) n (length result) (n + n * n) 0 0)

stepped_counts : (q : EigenRun) (work result : Vec) → q.answer.count ≤ q.run.count → Counts (stepped q work result)
unfolding stepped moved
stepped_counts q work result h =
    let x = checked q.n q.limit q.edition q.run work result in
    let y = step q.n q.limit q.edition (state_of q.n q.run work result) in
    either Counts (running q)
    (either Counts (passed x)
    (either Counts (eqb y.0.stop 0) (at_most _ _ refl) (at_most _ _ (closed_count q.n y.0 y.3 (y.2 ++ y.1))))
    (none_most _ _ (checked_none q.n q.limit q.edition q.run work result)))
    h

walked_counts : (k : ℕ) (t : Outcome) → Counts t → Counts (walked k t)
unfolding walked
walked_counts zero t h = h
walked_counts (suc k) t h = walked_counts k (stepped t.0 t.1 t.2) (stepped_counts t.0 t.1 t.2 h)

-- a finish runs no pass
finish_none : (q : EigenRun) (work result : Vec) → q.answer.count ≤ q.run.count → (finished q work result).0.answer.count ≤ q.run.count
unfolding finished
finish_none q work result h =
    let x = checked q.n q.limit q.edition q.run work result in
    let P : Outcome → Type 0 = λ t. t.0.answer.count ≤ q.run.count in
    either P (running q)
    (either P (passed x)
    (either P (ltb q.run.l q.n) (none_most _ _ refl) (at_most _ _ (closed_count q.n q.run work result)))
    (none_most _ _ (checked_none q.n q.limit q.edition q.run work result)))
    h

after_counts : (k n limit edition : ℕ) (a work result : Vec) → Counts (after k n limit edition a work result)
unfolding after
after_counts k n limit edition a work result = walked_counts k (started n limit edition a work result) (none_most _ _ (start_runs_none n limit edition a work result).1)

-- **steps_not_fewer**: where no step is left after k, the one call runs k passes at the most: none was run before the first step
pub steps_not_fewer : (n limit edition k : ℕ) (a work result : Vec) → arrived (after k n limit edition a work result).0 ≡ true → (eigen n limit edition a work result).0.count ≤ k
steps_not_fewer n limit edition k a work result h =
    let t = after k n limit edition a work result in
    omega (arith, ap (λ (o : Answer × Vec × Vec). o.0.count) (steps_end_as_one_call n limit edition k a work result h), finish_none t.0 t.1 t.2 (after_counts k n limit edition a work result), passes_by_steps k n limit edition a work result)
