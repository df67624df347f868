-- What the steps leave: alphas and betas that are finite (`steps_fine`), and how many steps were begun (`steps_some`, `steps_few`). Laws only.
use Rattle.std.specs.Prelude.{◌≡◌, ℕ, ◌+◌, ◌*◌, ◌<◌, ◌≤◌, Bool, true, false, cond, length, slice_set, refl, Float, Result}
use Rattle.std.proofs.Common.{sym, ap, ◌∙◌, true≢false, arith, length-set, get_or-set_same, get_or-set_other}
use Rattle.std.proofs.Math.Decide.{ℕ_discrete}
use Rattle.std.specs.Float.{nan}
use Rattle.std.specs.Float.Ieee.{lt, of_bits}
use Rattle.std.proofs.lemmas.List.{length-replicate, get_or-replicate}
use Rattle.grid.specs.LoopLaws.{upto_both}
use Rattle.grid.specs.Real.{Vec, zero64, zeros, at}
use Rattle.leaves.specs.Leaf.{is_finite}
use Rattle.answers.specs.Answers.{done}
use Rattle.answers.specs.declared.Answer.{Answer}
use Rattle.gram_schmidt.specs.Gram.{dot, norm}
use Rattle.matvec.specs.Matvec.{replaced, product}
use Rattle.lanczos_steps.specs.declared.step_end.Next.{Next}
use Rattle.lanczos_steps.specs.StepEnd.{least_beta, Went, went, step_ended, following}
use Rattle.lanczos_steps.specs.Krylov.{LanczosState, step, steps}

-- ---- parts of a step, as the code has them; no promise speaks of these

abbrev pub kept : ℕ → ℕ → Float → Vec → Vec → Vec → Vec → Vec → LanczosState
kept n j alpha w q al be v =
    let (r, be', v') = step_ended n j (norm n w) w be v in
    (r, replaced (j * n) (j * n + n) v q, slice_set al j alpha, be', v')

abbrev pub step_if_on : ℕ → Vec → ℕ → LanczosState → LanczosState
step_if_on n a j (r, q, al, be, v) = cond r.on (step n a j q al be v) (r, q, al, be, v)

-- what comes back of a step
abbrev pub told : LanczosState → Result Next Answer × Vec × Vec × Vec × Vec
told (r, q, al, be, v) = (following r, q, al, be, v)

-- ---- a list of so many finite numbers

pub record Fine (n : ℕ) (d : Vec) : Type 0 where
  pub long : length d ≡ n
  pub fine : (k : ℕ) → k < n → is_finite (at d k) ≡ true

pub fine_set : (n : ℕ) (d : Vec) (j : ℕ) (x : Float) → is_finite x ≡ true → Fine n d → Fine n (slice_set d j x)
fine_set n d j x f h = record { long = length-set d j x ∙ h.long; fine = now }
  where
    now : (k : ℕ) → k < n → is_finite (at (slice_set d j x) k) ≡ true
    now k l = elim (ℕ_discrete k j) [
      | yes e ↦ ap is_finite (ap (at (slice_set d j x)) e ∙ get_or-set_same d j x nan (rw (← e, h.long) l)) ∙ f
      | no g ↦ ap is_finite (get_or-set_other d j k x nan g) ∙ h.fine k l
    ]

zero_finite : is_finite zero64 ≡ true
unfolding is_finite of_bits
zero_finite = refl

pub fine_zeros : (n : ℕ) → Fine n (zeros n)
fine_zeros n = record {
  long = length-replicate n zero64;
  fine = λ k l. ap is_finite (get_or-replicate n k zero64 nan l) ∙ zero_finite;
}

-- ---- the steps keep the alphas and the betas so

pub record Both (al be : Vec) : Type 0 where
  pub alphas : Fine 256 al
  pub betas : Fine 256 be

pub both_zeros : Both (zeros 256) (zeros 256)
both_zeros = record { alphas = fine_zeros 256; betas = fine_zeros 256 }

abbrev InState : LanczosState → Type 0
InState x = Both x.2 x.3

-- what holds of both sides of a test
either : {A : Type 0} (P : A → Type 0) (b : Bool) {x y : A} → (b ≡ true → P x) → (b ≡ false → P y) → P (cond b x y)
either P true p q = p refl
either P false p q = q refl

ended_fine : (n j : ℕ) (beta : Float) (w be v : Vec) → Fine 256 be → Fine 256 (step_ended n j beta w be v).1
unfolding step_ended
ended_fine n j beta w be v h =
    either (λ (z : Went × Vec × Vec). Fine 256 z.1) (is_finite beta)
    (λ e. either (λ (z : Went × Vec × Vec). Fine 256 z.1) (lt least_beta beta) (λ f. fine_set 256 be j beta e h) (λ f. h))
    (λ e. h)

kept_fine : (n j : ℕ) (alpha : Float) (w q al be v : Vec) → is_finite alpha ≡ true → Both al be → InState (kept n j alpha w q al be v)
kept_fine n j alpha w q al be v e h = record { alphas = fine_set 256 al j alpha e h.alphas; betas = ended_fine n j (norm n w) w be v h.betas }

-- ---- and each is the step after the one before

ended_dim : (n j : ℕ) (beta : Float) (w be v : Vec) → (step_ended n j beta w be v).0.dim ≡ j + 1
unfolding step_ended
ended_dim n j beta w be v =
    either (λ (z : Went × Vec × Vec). z.0.dim ≡ j + 1) (is_finite beta)
    (λ e. either (λ (z : Went × Vec × Vec). z.0.dim ≡ j + 1) (lt least_beta beta) (λ f. refl) (λ f. refl))
    (λ e. refl)

kept_dim : (n j : ℕ) (alpha : Float) (w q al be v : Vec) → (kept n j alpha w q al be v).0.dim ≡ j + 1
kept_dim n j alpha w q al be v = ended_dim n j (norm n w) w be v

record Begun (j : ℕ) (x : LanczosState) : Type 0 where
  begun : x.0.dim ≡ j + 1
  fine : InState x

step_begun : (n : ℕ) (a : Vec) (j : ℕ) (q al be v : Vec) → Both al be → Begun j (step n a j q al be v)
unfolding step
step_begun n a j q al be v h =
    either (Begun j) (is_finite (dot n v (product n a v)))
    (λ e. record { begun = kept_dim n j (dot n v (product n a v)) _ q al be v; fine = kept_fine n j _ _ q al be v e h })
    (λ e. record { begun = refl; fine = h })

-- after j turns
record Turned (j : ℕ) (x : LanczosState) : Type 0 where
  few : x.0.dim ≤ j
  running : x.0.on ≡ true → x.0.dim ≡ j
  stopped : x.0.on ≡ false → 0 < x.0.dim
  fine : InState x

step_turned : (n : ℕ) (a : Vec) (j : ℕ) (x : LanczosState) → Turned j x → Turned (j + 1) (step_if_on n a j x)
step_turned n a j x h =
    either (Turned (j + 1)) x.0.on
    (λ e.
    let b = step_begun n a j x.1 x.2 x.3 x.4 h.fine in
    record { few = omega (arith, b.begun); running = λ t. b.begun; stopped = λ t. omega (arith, b.begun); fine = b.fine })
    (λ e. record { few = omega (arith, h.few); running = λ t. absurd (true≢false (sym t ∙ e)); stopped = h.stopped; fine = h.fine })

module _ (n s : ℕ) (a q al be v : Vec) (h : Both al be) where
  turned : Turned s (steps n s a q al be v)
  unfolding steps
  turned =
      upto_both (λ j x y. Turned j x) (step_if_on n a) (step_if_on n a) 0 s (went true (done 0) 0, q, al, be, v) (went true (done 0) 0, q, al, be, v) (omega arith)
      (λ j x y l m g. step_turned n a j x g)
      (record { few = omega arith; running = λ t. refl; stopped = λ t. absurd (true≢false t); fine = h })

  pub steps_fine : Both (steps n s a q al be v).2 (steps n s a q al be v).3
  steps_fine = turned.fine

  pub steps_few : (steps n s a q al be v).0.dim ≤ s
  steps_few = turned.few

  pub steps_some : 0 < s → 0 < (steps n s a q al be v).0.dim
  steps_some l = go (steps n s a q al be v).0.on refl
    where
      go : (p : Bool) → (steps n s a q al be v).0.on ≡ p → 0 < (steps n s a q al be v).0.dim
      go true e = omega (arith, turned.running e, l)
      go false e = turned.stopped e
