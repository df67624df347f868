-- The loop over the steps: how they stand behind one, by what comes back of it, and that a stop leaves nothing more to do.
use Rattle.std.specs.Prelude.{◌≡◌, ℕ, zero, suc, ◌+◌, ◌-◌, ◌<◌, Bool, true, false, cond, slice_set, refl, eqb, Float, Result, Ok, Err}
use Rattle.std.proofs.Common.{sym, ap, ◌∙◌, ⊎_elim, ne_eqb, true≢false, arith}
use Rattle.std.specs.Float.Ieee.{lt}
use Rattle.grid.specs.Loop.{upto}
use Rattle.grid.specs.LoopLaws.{next}
use Rattle.grid.specs.Real.{Vec}
use Rattle.leaves.specs.Leaf.{is_finite}
use Rattle.leaves.specs.Scan.{class_of}
use Rattle.leaves.specs.ScanLaws.{class_cases}
use Rattle.answers.specs.Answers.{answered, done, passed}
use Rattle.answers.specs.declared.Answer.{Answer}
use Rattle.gram_schmidt.specs.Gram.{dot, norm}
use Rattle.gram_schmidt.specs.Unit.{over}
use Rattle.matvec.specs.Matvec.{product}
use Rattle.lanczos_steps.specs.declared.step_end.Next.{Next}
use Rattle.lanczos_steps.specs.declared.step_end.Next.TheVariants.{Step, End}
use Rattle.lanczos_steps.specs.StepEnd.{least_beta, Went, went, step_ended, following}
use Rattle.lanczos_steps.specs.Krylov.{LanczosState, step, steps, outcome}
use Rattle.lanczos_steps.specs.KrylovLaws.{kept, step_if_on, told}

-- ---- how the steps stand behind step j, by what comes back of it

abbrev pub stood : ℕ → Result Next Answer → Went
stood j (Ok Step) = went true (done 0) (j + 1)
stood j (Ok End) = went false (done 0) (j + 1)
stood j (Err r) = went false r (j + 1)

pub class_some : (x : Float) → eqb (class_of x) 0 ≡ false
class_some x = ne_eqb (class_of x) 0 (λ z. ⊎_elim (λ e. omega arith) (λ e. omega arith) (class_cases x))

record Told (j : ℕ) (x : Went) : Type 0 where
  same : x ≡ stood j (following x)
  index : cond (passed x.said) j x.said.index ≡ j

stopped : (r : Answer) (j : ℕ) → passed r ≡ false → r.index ≡ j → Told j (went false r (j + 1))
stopped r j h i = record { same = rw h; index = rw h i }

ended_told : (n j : ℕ) (beta : Float) (w be v : Vec) → Told j (step_ended n j beta w be v).0
unfolding step_ended
ended_told n j beta w be v = go (is_finite beta) (lt least_beta beta)
  where
    refused : Answer
    refused = answered (class_of beta) 5 j 0

    go : (p q : Bool) → Told j (cond {A = Went × Vec × Vec} p (cond q (went true (done 0) (j + 1), slice_set be j beta, over n beta w) (went false (done 0) (j + 1), be, v)) (went false refused (j + 1), be, v)).0
    go true true = record { same = refl; index = refl }
    go true false = record { same = refl; index = refl }
    go false q = stopped refused j (class_some beta) refl

kept_told : (n j : ℕ) (alpha : Float) (w q al be v : Vec) → Told j (kept n j alpha w q al be v).0
kept_told n j alpha w q al be v = ended_told n j (norm n w) w be v

step_known : (n : ℕ) (a : Vec) (j : ℕ) (q al be v : Vec) → Told j (step n a j q al be v).0
unfolding step
step_known n a j q al be v = go (is_finite alpha) (kept n j alpha _ q al be v) (kept_told n j alpha _ q al be v)
  where
    alpha : Float
    alpha = dot n v (product n a v)

    refused : Answer
    refused = answered (class_of alpha) 4 j 0

    go : (p : Bool) (x : LanczosState) → Told j x.0 → Told j (cond p x (went false refused (j + 1), q, al, be, v)).0
    go true x t = t
    go false x t = stopped refused j (class_some alpha) refl

step_told : (n : ℕ) (a : Vec) (j : ℕ) (q al be v : Vec) {r : Result Next Answer} {q' al' be' v' : Vec}
    → ◌≡◌ {A = Result Next Answer × Vec × Vec × Vec × Vec} (r, q', al', be', v') (told (step n a j q al be v)) → ◌≡◌ {A = LanczosState} (stood j r, q', al', be', v') (step n a j q al be v)
step_told n a j q al be v e =
    let x = step n a j q al be v in
    (λ i. (stood j (e i).0, (e i).1, (e i).2, (e i).3, (e i).4)) ∙ ap (λ (y : Went). (y, x.1, x.2, x.3, x.4)) (sym (step_known n a j q al be v).same)

-- a refusal is one
refuses : (x : Went) {r : Answer} → Err r ≡ following x → passed r ≡ false
refuses x {r} = go x.on (passed x.said) refl
  where
    fine : Result Next Answer → Bool
    fine (Ok x) = true
    fine (Err r) = false

    refusal : Result Next Answer → Answer
    refusal (Ok x) = done 0
    refusal (Err r) = r

    go : (p q : Bool) → passed x.said ≡ q → Err r ≡ cond p (Ok Step) (cond q (Ok End) (Err x.said)) → passed r ≡ false
    go true q f e = absurd (true≢false (ap fine (sym e)))
    go false true f e = absurd (true≢false (ap fine (sym e)))
    go false false f e = ap (λ (y : Result Next Answer). passed (refusal y)) e ∙ f

-- and its index is the step
index_of : (x : Went) (j : ℕ) {r : Answer} → Told j x → Err r ≡ following x → r.index ≡ j
index_of x j {r} t = go x.on (passed x.said) refl
  where
    fine : Result Next Answer → Bool
    fine (Ok x) = true
    fine (Err r) = false

    refusal : Result Next Answer → Answer
    refusal (Ok x) = done 0
    refusal (Err r) = r

    go : (p q : Bool) → passed x.said ≡ q → Err r ≡ cond p (Ok Step) (cond q (Ok End) (Err x.said)) → r.index ≡ j
    go true q f e = absurd (true≢false (ap fine (sym e)))
    go false true f e = absurd (true≢false (ap fine (sym e)))
    go false false f e = ap (λ (y : Result Next Answer). (refusal y).index) e ∙ (rw f at t.index)

-- after a stop the turns that are left change nothing
module _ (n : ℕ) (a : Vec) (start x : LanczosState) where
  stays : (i d : ℕ) → x.0.on ≡ false → x ≡ upto (step_if_on n a) 0 i start → x ≡ upto (step_if_on n a) 0 (i + d) start
  stays i zero h e = e ∙ ap (λ (k : ℕ). upto (step_if_on n a) 0 k start) (omega arith)
  stays i (suc d) h e =
      next (step_if_on n a) 0 (i + d) start (omega arith) (stays i d h e) (rw h)
      ∙ ap (λ (k : ℕ). upto (step_if_on n a) 0 k start) (omega arith)

-- ---- the loop: j steps have gone on, and one more is told

module _ (n s : ℕ) (a q al be v : Vec) (j : ℕ) {q₁ al₁ be₁ v₁ : Vec}
    (on : ◌≡◌ {A = LanczosState} (went true (done 0) j, q₁, al₁, be₁, v₁) (upto (step_if_on n a) 0 j (went true (done 0) 0, q, al, be, v))) where
  once : {r : Result Next Answer} {q₂ al₂ be₂ v₂ : Vec} → ◌≡◌ {A = Result Next Answer × Vec × Vec × Vec × Vec} (r, q₂, al₂, be₂, v₂) (told (step n a j q₁ al₁ be₁ v₁))
      → ◌≡◌ {A = LanczosState} (stood j r, q₂, al₂, be₂, v₂) (upto (step_if_on n a) 0 (j + 1) (went true (done 0) 0, q, al, be, v))
  once e = next (step_if_on n a) 0 j _ (omega arith) on (step_told n a j q₁ al₁ be₁ v₁ e)

  whole : {x : LanczosState} → j < s → x.0.on ≡ false → x ≡ upto (step_if_on n a) 0 (j + 1) (went true (done 0) 0, q, al, be, v) → x ≡ steps n s a q al be v
  unfolding steps
  whole {x} l h e =
      stays n a (went true (done 0) 0, q, al, be, v) x (j + 1) (s - (j + 1)) h e
      ∙ ap (λ (k : ℕ). upto (step_if_on n a) 0 k (went true (done 0) 0, q, al, be, v)) (omega arith)

  pub goes_on : {q₂ al₂ be₂ v₂ : Vec} → ◌≡◌ {A = Result Next Answer × Vec × Vec × Vec × Vec} (Ok Step, q₂, al₂, be₂, v₂) (told (step n a j q₁ al₁ be₁ v₁))
      → ◌≡◌ {A = LanczosState} (went true (done 0) (j + 1), q₂, al₂, be₂, v₂) (upto (step_if_on n a) 0 (j + 1) (went true (done 0) 0, q, al, be, v))
  goes_on e = once e

  pub ends : {q₂ al₂ be₂ v₂ : Vec} → j < s → ◌≡◌ {A = Result Next Answer × Vec × Vec × Vec × Vec} (Ok End, q₂, al₂, be₂, v₂) (told (step n a j q₁ al₁ be₁ v₁))
      → ◌≡◌ {A = Result (ℕ × Next) Answer × Vec × Vec × Vec × Vec} (Ok (j + 1, End), q₂, al₂, be₂, v₂) (outcome (steps n s a q al be v))
  ends l e = ap outcome (whole l refl (once e))

  pub refused : {r : Answer} {q₂ al₂ be₂ v₂ : Vec} → j < s → ◌≡◌ {A = Result Next Answer × Vec × Vec × Vec × Vec} (Err r, q₂, al₂, be₂, v₂) (told (step n a j q₁ al₁ be₁ v₁))
      → ◌≡◌ {A = Result (ℕ × Next) Answer × Vec × Vec × Vec × Vec} (Err r, q₂, al₂, be₂, v₂) (outcome (steps n s a q al be v))
  refused {r} {q₂} {al₂} {be₂} {v₂} l e =
      let h : passed r ≡ false = refuses (step n a j q₁ al₁ be₁ v₁).0 (ap (λ (y : Result Next Answer × Vec × Vec × Vec × Vec). y.0) e) in
      ap (λ (p : Bool). (cond p (Ok (j + 1, End)) (Err r), q₂, al₂, be₂, v₂)) (sym h) ∙ ap outcome (whole l refl (once e))

  pub begun : {r : Answer} {q₂ al₂ be₂ v₂ : Vec} → j < s → ◌≡◌ {A = Result Next Answer × Vec × Vec × Vec × Vec} (Err r, q₂, al₂, be₂, v₂) (told (step n a j q₁ al₁ be₁ v₁))
      → (steps n s a q al be v).0.dim ≡ r.index + 1
  begun {r} l e =
      ap (λ (y : LanczosState). y.0.dim) (sym (whole l refl (once e)))
      ∙ ap (λ (k : ℕ). k + 1) (sym (index_of (step n a j q₁ al₁ be₁ v₁).0 j (step_known n a j q₁ al₁ be₁ v₁) (ap (λ (y : Result Next Answer × Vec × Vec × Vec × Vec). y.0) e)))

  pub all_went : j ≡ s → ◌≡◌ {A = Result (ℕ × Next) Answer × Vec × Vec × Vec × Vec} (Ok (s, Step), q₁, al₁, be₁, v₁) (outcome (steps n s a q al be v))
  unfolding steps
  all_went e = ap (λ (k : ℕ). (Ok (k, Step), q₁, al₁, be₁, v₁)) (sym e) ∙ ap outcome (on ∙ ap (λ (k : ℕ). upto (step_if_on n a) 0 k (went true (done 0) 0, q, al, be, v)) e)
