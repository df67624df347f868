-- What the verdict of a check says of its definition.
use Rattle.std.specs.Prelude.{◌≡◌, false, ℕ, eqb, ⊤, Result, Ok, Err, IsErrAnd}
use Rattle.std.proofs.Common.{refl, sym, ap, ◌∙◌, true≢false}
use Rattle.answers.specs.Answers.{done, passed}
use Rattle.answers.specs.Refusals.{answer_to, verdict}
use Rattle.answers.specs.declared.Answer.{Answer}
use Rattle.answers.specs.declared.refusal.Refusal.{Refusal}
use Rattle.answers.specs.declared.refusal.Refusal.TheVariants.{Dimension, Limit, NoU, NoVt, RightSide, Length, NotFinite, Tolerance, Edition, Run, NoBand, Pairs, Samples, EntryOver}

-- nothing is refused
pub on_ok : {x : Result ⊤ Refusal} {a : Answer} {u : ⊤} → verdict x ≡ a → x ≡ Ok u → a ≡ done 0
on_ok e o = sym e ∙ ap verdict o

-- a refusal
pub on_err : {x : Result ⊤ Refusal} {a : Answer} {r : Refusal} → verdict x ≡ a → x ≡ Err r → a ≡ answer_to r
on_err e o = sym e ∙ ap verdict o

pub fails : (r : Refusal) → passed (answer_to r) ≡ false
fails Dimension = refl
fails Limit = refl
fails NoU = refl
fails NoVt = refl
fails RightSide = refl
fails (Length array) = refl
fails (NotFinite index) = refl
fails Tolerance = refl
fails Edition = refl
fails Run = refl
fails NoBand = refl
fails Pairs = refl
fails Samples = refl
fails (EntryOver place) = refl

pub refuses : (r : Refusal) → (answer_to r).answer ≡ 0 → ⊥
refuses r h = true≢false (sym (ap (λ (n : ℕ). eqb n 0) h) ∙ fails r)

-- a refusal that `?` passes on
pub passed_on : (x : Result ⊤ Refusal) (r : Refusal) → IsErrAnd x (λ y. y ≡ r) → verdict x ≡ answer_to r
passed_on (Ok u) r e = absurd e
passed_on (Err y) r e = ap answer_to e
