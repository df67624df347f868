-- Calls of `solve`, `pseudo_inverse` and `qr_q` that meet their promises: o and p are what they came back with. Laws only.
use Rattle.std.specs.Prelude.{◌≡◌, true, ℕ, Float, length}
use Rattle.std.proofs.Common.{sym, ap, ◌∙◌, subst}
use Rattle.std.specs.Float.Ieee.{neg}
use Rattle.grid.specs.Real.{Vec, zero64}
use Rattle.leaves.specs.Finite.{Finite}
use Rattle.answers.specs.Early.{Early, EarlyOr11}
use Rattle.answers.specs.Index.{AtMark}
use Rattle.answers.specs.declared.Answer.{Answer}
use Rattle.answers.specs.Checks.{tolerance_good}
use Rattle.solve.specs.Solution.{solution}
use Rattle.solve.specs.PseudoInverse.{inverted}
use Rattle.solve.specs.Solve.{solve, pseudo_inverse}
use Rattle.solve.specs.WithoutToleranceCheck.{solve_before, pseudo_inverse_before}
use Rattle.solve.proofs.Tolerance.{solve_tolerance_zero, pseudo_inverse_tolerance_zero, solve_as_before, pseudo_inverse_as_before}
use Rattle.solve.specs.Index as Solve
use Rattle.solve.proofs.IndexLaws.{solve_index_points, solve_index_zero, pseudo_inverse_index_points, pseudo_inverse_index_zero}
use Rattle.solve.proofs.Result.{solve_finite_out, pseudo_inverse_finite_out}
use Rattle.solve.proofs.OldContents.{solve_old_contents, pseudo_inverse_old_contents}
use Rattle.qr_q.specs.QrQ.{qr_q}
use Rattle.qr_q.specs.Index as Qr
use Rattle.qr_q.specs.IndexLaws.{qr_q_index_points, qr_q_index_zero}
use Rattle.qr_q.specs.Result.{qr_q_finite_out}
use Rattle.qr_q.specs.OldContents.{qr_q_old_contents}

-- an outcome that is promised, and what is so of the promised one
given : (e o : Answer × Vec) → o ≡ e → (e.0.answer ≡ 0 → Finite e.1) → o.0.answer ≡ 0 → Finite o.1
given e o p h z = subst (λ (x : Answer × Vec). Finite x.1) (sym p) (h (ap (λ (x : Answer × Vec). x.0.answer) (sym p) ∙ z))

alike : (K : Answer → Type 0) (e f o p : Answer × Vec) → o ≡ e → p ≡ f → ((K e.0 → ⊥) → e ≡ f) → (K o.0 → ⊥) → o ≡ p
alike K e f o p a b h g = a ∙ h (λ s. g (subst (λ (x : Answer × Vec). K x.0) (sym a) s)) ∙ sym b

pub solve_finite_out_calls : (m n u vt : ℕ) (tol : Float) (d b x : Vec) (o : Answer × Vec) → o ≡ solve m n u vt tol d b x → o.0.answer ≡ 0 → Finite o.1
solve_finite_out_calls m n u vt tol d b x o p = given _ o p (solve_finite_out m n u vt tol d b x)

pub pseudo_inverse_finite_out_calls : (m n u vt : ℕ) (tol : Float) (d x : Vec) (o : Answer × Vec) → o ≡ pseudo_inverse m n u vt tol d x → o.0.answer ≡ 0 → Finite o.1
pseudo_inverse_finite_out_calls m n u vt tol d x o p = given _ o p (pseudo_inverse_finite_out m n u vt tol d x)

pub qr_q_finite_out_calls : (m k : ℕ) (a x : Vec) (o : Answer × Vec) → o ≡ qr_q m k a x → o.0.answer ≡ 0 → Finite o.1
qr_q_finite_out_calls m k a x o p = given _ o p (qr_q_finite_out m k a x)

-- two calls that differ in what the answer array held before, x and y
pub solve_old_contents_calls : (m n u vt : ℕ) (tol : Float) (d b x y : Vec) (o p : Answer × Vec) → length x ≡ length y
    → o ≡ solve m n u vt tol d b x → p ≡ solve m n u vt tol d b y → (EarlyOr11 o.0 → ⊥) → o ≡ p
solve_old_contents_calls m n u vt tol d b x y o p l e f = alike EarlyOr11 _ _ o p e f (solve_old_contents m n u vt tol d b x y l)

pub pseudo_inverse_old_contents_calls : (m n u vt : ℕ) (tol : Float) (d x y : Vec) (o p : Answer × Vec) → length x ≡ length y
    → o ≡ pseudo_inverse m n u vt tol d x → p ≡ pseudo_inverse m n u vt tol d y → (EarlyOr11 o.0 → ⊥) → o ≡ p
pseudo_inverse_old_contents_calls m n u vt tol d x y o p l e f = alike EarlyOr11 _ _ o p e f (pseudo_inverse_old_contents m n u vt tol d x y l)

pub qr_q_old_contents_calls : (m k : ℕ) (a x y : Vec) (o p : Answer × Vec) → length x ≡ length y → o ≡ qr_q m k a x → p ≡ qr_q m k a y → (Early o.0 → ⊥) → o ≡ p
qr_q_old_contents_calls m k a x y o p l e f = alike Early _ _ o p e f (qr_q_old_contents m k a x y l)

-- what the index says
pointed : (P : Answer → Type 0) (e o : Answer × Vec) → o ≡ e → (AtMark e.0 → P e.0) → AtMark o.0 → P o.0
pointed P e o p h = subst (λ (x : Answer × Vec). AtMark x.0 → P x.0) (sym p) h

unmarked : (e o : Answer × Vec) → o ≡ e → ((AtMark e.0 → ⊥) → e.0.index ≡ 0) → (AtMark o.0 → ⊥) → o.0.index ≡ 0
unmarked e o p h = subst (λ (x : Answer × Vec). (AtMark x.0 → ⊥) → x.0.index ≡ 0) (sym p) h

pub solve_index_points_calls : (m n u vt : ℕ) (tol : Float) (d b x : Vec) (o : Answer × Vec) → o ≡ solve m n u vt tol d b x → AtMark o.0 → Solve.Points (solution m n tol d b) o.0
solve_index_points_calls m n u vt tol d b x o p = pointed (Solve.Points (solution m n tol d b)) _ o p (solve_index_points m n u vt tol d b x)

pub solve_index_zero_calls : (m n u vt : ℕ) (tol : Float) (d b x : Vec) (o : Answer × Vec) → o ≡ solve m n u vt tol d b x → (AtMark o.0 → ⊥) → o.0.index ≡ 0
solve_index_zero_calls m n u vt tol d b x o p = unmarked _ o p (solve_index_zero m n u vt tol d b x)

pub pseudo_inverse_index_points_calls : (m n u vt : ℕ) (tol : Float) (d x : Vec) (o : Answer × Vec) → o ≡ pseudo_inverse m n u vt tol d x → AtMark o.0 → Solve.Points (inverted m n tol d) o.0
pseudo_inverse_index_points_calls m n u vt tol d x o p = pointed (Solve.Points (inverted m n tol d)) _ o p (pseudo_inverse_index_points m n u vt tol d x)

pub pseudo_inverse_index_zero_calls : (m n u vt : ℕ) (tol : Float) (d x : Vec) (o : Answer × Vec) → o ≡ pseudo_inverse m n u vt tol d x → (AtMark o.0 → ⊥) → o.0.index ≡ 0
pseudo_inverse_index_zero_calls m n u vt tol d x o p = unmarked _ o p (pseudo_inverse_index_zero m n u vt tol d x)

pub qr_q_index_points_calls : (m k : ℕ) (a x : Vec) (o : Answer × Vec) → o ≡ qr_q m k a x → AtMark o.0 → Qr.Points m k a o.0
qr_q_index_points_calls m k a x o p = pointed (Qr.Points m k a) _ o p (qr_q_index_points m k a x)

pub qr_q_index_zero_calls : (m k : ℕ) (a x : Vec) (o : Answer × Vec) → o ≡ qr_q m k a x → (AtMark o.0 → ⊥) → o.0.index ≡ 0
qr_q_index_zero_calls m k a x o p = unmarked _ o p (qr_q_index_zero m k a x)

-- a call with the tolerance -0.0, and one with 0
pub solve_tolerance_zero_calls : (m n u vt : ℕ) (d b x : Vec) (o p : Answer × Vec) → o ≡ solve m n u vt (neg zero64) d b x → p ≡ solve m n u vt zero64 d b x → o ≡ p
solve_tolerance_zero_calls m n u vt d b x o p e f = e ∙ solve_tolerance_zero m n u vt d b x ∙ sym f

pub pseudo_inverse_tolerance_zero_calls : (m n u vt : ℕ) (d x : Vec) (o p : Answer × Vec) → o ≡ pseudo_inverse m n u vt (neg zero64) d x → p ≡ pseudo_inverse m n u vt zero64 d x → o ≡ p
pseudo_inverse_tolerance_zero_calls m n u vt d x o p e f = e ∙ pseudo_inverse_tolerance_zero m n u vt d x ∙ sym f

-- a call whose tolerance is not refused
pub solve_as_before_calls : (m n u vt : ℕ) (tol : Float) (d b x : Vec) (o : Answer × Vec) → o ≡ solve m n u vt tol d b x → tolerance_good tol ≡ true → o ≡ solve_before m n u vt tol d b x
solve_as_before_calls m n u vt tol d b x o p g = p ∙ solve_as_before m n u vt tol d b x g

pub pseudo_inverse_as_before_calls : (m n u vt : ℕ) (tol : Float) (d x : Vec) (o : Answer × Vec) → o ≡ pseudo_inverse m n u vt tol d x → tolerance_good tol ≡ true → o ≡ pseudo_inverse_before m n u vt tol d x
pseudo_inverse_as_before_calls m n u vt tol d x o p g = p ∙ pseudo_inverse_as_before m n u vt tol d x g
