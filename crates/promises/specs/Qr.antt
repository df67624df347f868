-- What is proved of `qr_q`: o and p are what calls that meet its promise came back with. Laws only.
use Rattle.std.specs.Prelude.{◌≡◌, ℕ, length}
use Rattle.answers.specs.Early.{Early}
use Rattle.answers.specs.Index.{AtMark}
use Rattle.answers.specs.declared.Answer.{Answer}
use Rattle.calls_theorems.specs.Answers.{qr_q_finite_out_calls, qr_q_index_points_calls, qr_q_index_zero_calls, qr_q_old_contents_calls}
use Rattle.grid.specs.Real.{Vec}
use Rattle.leaves.specs.Finite.{Finite}
use Rattle.qr_q.specs.OneOutcome.{qr_q_one}
use Rattle.qr_q.specs.QrQ.{qr_q}
use Rattle.qr_q.specs.Index as Qr

-- Two outcomes that satisfy the promise are one.
pub t2_qr_q_one : (m k : ℕ) (a x : Vec) (o p : Answer × Vec) → o ≡ qr_q m k a x → p ≡ qr_q m k a x → o ≡ p
t2_qr_q_one = qr_q_one

-- On answer 0 every number of the answer is finite.
pub t11_qr_q_finite_out : (m k : ℕ) (a x : Vec) (o : Answer × Vec) → o ≡ qr_q m k a x → o.0.answer ≡ 0 → Finite o.1
t11_qr_q_finite_out = qr_q_finite_out_calls

-- Two calls that differ only in what the answer held before have the same outcome, unless it is a refusal that touches nothing: 1 to 6.
pub t14_qr_q_old_contents : (m k : ℕ) (a x y : Vec) (o p : Answer × Vec) → length x ≡ length y → o ≡ qr_q m k a x → p ≡ qr_q m k a y
    → (Early o.0 → ⊥) → o ≡ p
t14_qr_q_old_contents = qr_q_old_contents_calls

-- On 8 and 10 the norm of the column at `index` is infinite or NaN, and every norm before it is finite.
pub t15_qr_q_index_points : (m k : ℕ) (a x : Vec) (o : Answer × Vec) → o ≡ qr_q m k a x → AtMark o.0 → Qr.Points m k a o.0
t15_qr_q_index_points = qr_q_index_points_calls

-- On every other answer the index is 0.
pub t15_qr_q_index_zero : (m k : ℕ) (a x : Vec) (o : Answer × Vec) → o ≡ qr_q m k a x → (AtMark o.0 → ⊥) → o.0.index ≡ 0
t15_qr_q_index_zero = qr_q_index_zero_calls
