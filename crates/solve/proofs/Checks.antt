-- What the checks of `solve` and `pseudo_inverse` leave: where they refuse nothing, sizes and lengths are right.
use mathlib.Core.Path.{◌≡◌, refl, sym, ap, ◌∙◌}
use mathlib.Core.Bool.{Bool, true, false, cond, not, ◌||◌}
use Prim.Native.Nat.{ℕ, ◌*◌, ◌≤◌}
use native.Mathlib.Decide.{ℕ_discrete}
use native.Mathlib.Omega.{arith}
use borrow.Author.Tests.{ltb-false, le-ltb, eqb-false}
use lib.Dec.{ltb, eqb}
use lib.Ieee.{Float}
use Rattle.std.specs.Prelude.{⊤, Result, Ok, Err}
use Rattle.answers.specs.Refusals.{answer_to, verdict}
use Rattle.answers.specs.declared.refusal.Refusal.{Refusal}
use Rattle.answers.proofs.VerdictLaws.{on_ok, on_err, fails}
use Rattle.answers.specs.Answers.{refused, done, present, decomposition_length}
use Rattle.answers.specs.declared.Answer.{Answer}
use Rattle.answers.specs.Checks.{fitting}
use Rattle.answers.specs.ToleranceLaws.{fitting_right}
use Rattle.solve.specs.Solve.{parts, solve_checks, inverse_checks}
use Rattle.solve.specs.SolutionLaws.{Sized}
use Rattle.solve.specs.ChecksLaws.{solve_checks_5, solve_checks_last, inverse_checks_last}

-- the answer is that of the checks
pub told : {r s : Answer} → r ≡ s → r.answer ≡ 0 → s.answer ≡ 0
told e h = ap (λ (a : Answer). a.answer) (sym e) ∙ h

-- `parts` by its three tests
abbrev chain : Bool → Bool → Bool → Answer → Answer
chain a b c later = cond a (refused 1 0) (cond b (refused 3 0) (cond c (refused 4 0) later))

-- where the first three refuse, the later checks do not count
stops : (m n u vt : ℕ) (later : Answer) {r : Answer} → r ≡ parts m n u vt (done 0) → (r.answer ≡ 0 → ⊥) → r ≡ parts m n u vt later
stops m n u vt later e h = e ∙ go (ltb 256 m || ltb 256 n) (eqb u 0) (eqb vt 0) (λ z. h (ap (λ (a : Answer). a.answer) e ∙ z))
  where
    go : (a b c : Bool) → ((chain a b c (done 0)).answer ≡ 0 → ⊥) → chain a b c (done 0) ≡ chain a b c later
    go true b c h = refl
    go false true c h = refl
    go false false true h = refl
    go false false false h = absurd (h refl)

-- so the refusal is that of all checks
pub stopped : (m n u vt : ℕ) (later : Answer) {x : Result ⊤ Refusal} {r : Refusal} → verdict x ≡ parts m n u vt (done 0) → x ≡ Err r → answer_to r ≡ parts m n u vt later
stopped m n u vt later {r = r} e o = stops m n u vt later (sym (on_err e o)) (eqb-false _ 0 (fails r))

-- where they refuse nothing
pub record There (m n u vt : ℕ) : Type 0 where
  pub few : m ≤ 256
  pub narrow : n ≤ 256
  pub has_u : eqb u 0 ≡ false
  pub has_vt : eqb vt 0 ≡ false

there : (m n u vt : ℕ) (later : Answer) {r : Answer} → r ≡ parts m n u vt later → r.answer ≡ 0 → There m n u vt
there m n u vt later e h = go (ltb 256 m) refl (ltb 256 n) refl (eqb u 0) refl (eqb vt 0) refl (told e h)
  where
    go : (a : Bool) → ltb 256 m ≡ a → (b : Bool) → ltb 256 n ≡ b → (c : Bool) → eqb u 0 ≡ c → (d : Bool) → eqb vt 0 ≡ d
        → (chain (a || b) c d later).answer ≡ 0 → There m n u vt
    go true e b f c g d k h = absurd (omega arith)
    go false e true f c g d k h = absurd (omega arith)
    go false e false f true g d k h = absurd (omega arith)
    go false e false f false g true k h = absurd (omega arith)
    go false e false f false g false k h = record { few = ltb-false 256 m e; narrow = ltb-false 256 n f; has_u = g; has_vt = k }

pub passed_there : (m n u vt : ℕ) {x : Result ⊤ Refusal} {y : ⊤} → verdict x ≡ parts m n u vt (done 0) → x ≡ Ok y → There m n u vt
passed_there m n u vt e o = there m n u vt (done 0) (sym (on_ok e o)) refl

-- and then the later checks decide
pub goes : (m n u vt : ℕ) (later : Answer) → There m n u vt → later ≡ parts m n u vt later
goes m n u vt later t = rw (le-ltb 256 m t.few, le-ltb 256 n t.narrow, t.has_u, t.has_vt)

whole : (m n u vt l : ℕ) → There m n u vt → l ≡ decomposition_length m n u vt → Sized m n l
unfolding decomposition_length present
whole m n u vt l t e = record { few = t.few; narrow = t.narrow; whole = rw (t.has_u, t.has_vt) at e }

fitting_sized : (m n u vt : ℕ) (tol : Float) (d x want : ℕ) → There m n u vt → (fitting tol d (decomposition_length m n u vt) x want).answer ≡ 0 → Sized m n d × (x ≡ want)
fitting_sized m n u vt tol d x want t h =
    let w = fitting_right tol d (decomposition_length m n u vt) x want h in
    (whole m n u vt d t w.1, w.2)

module _ (m n u vt : ℕ) (tol : Float) (d x : ℕ) where
  pub solve_sized : (b : ℕ) → (solve_checks m n u vt tol d b x).answer ≡ 0 → Sized m n d × (b ≡ m) × (x ≡ n)
  unfolding solve_checks
  solve_sized b h =
      let t = there m n u vt (cond (not (eqb b m)) (refused 5 0) (fitting tol d (decomposition_length m n u vt) x n)) refl h in
      let has_u = eqb-false u 0 t.has_u in
      let has_vt = eqb-false vt 0 t.has_vt in
      elim (ℕ_discrete b m) [
        | yes e ↦
            let w = fitting_sized m n u vt tol d x n t (told (solve_checks_last m n u vt tol d x t.few t.narrow has_u has_vt b e) h) in
            (w.0, e, w.1)
        | no q ↦ five (told (solve_checks_5 m n u vt tol d x t.few t.narrow has_u has_vt b q) h)
      ]
    where
      five : (refused 5 0).answer ≡ 0 → Sized m n d × (b ≡ m) × (x ≡ n)
      five e = absurd (omega arith)

  pub inverse_sized : (inverse_checks m n u vt tol d x).answer ≡ 0 → Sized m n d × (x ≡ n * m)
  unfolding inverse_checks
  inverse_sized h =
      let t = there m n u vt (fitting tol d (decomposition_length m n u vt) x (n * m)) refl h in
      fitting_sized m n u vt tol d x (n * m) t (told (inverse_checks_last m n u vt tol d x t.few t.narrow (eqb-false u 0 t.has_u) (eqb-false vt 0 t.has_vt)) h)
