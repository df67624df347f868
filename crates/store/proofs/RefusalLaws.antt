-- What C gets of a result tells the result: no two have the same. Laws only.
use Rattle.std.specs.Prelude.{◌≡◌, refl, cond, eqb, ℕ, ◌<◌, ⊤, Option, Some, None, Result, Ok, Err}
use Rattle.std.proofs.Common.{sym, ap, ◌∙◌, arith}
use Rattle.std.proofs.lemmas.Option.{same_Some}
use Rattle.answers.specs.declared.Answer.{Answer}
use Rattle.store.specs.declared.refusal.StoreRefusal.{StoreRefusal}
use Rattle.store.specs.declared.refusal.StoreRefusal.TheVariants.{Length, Full, Held, Missing, Entries, Owner, Quotas, Buffer, Damaged}
use Rattle.store.specs.Refusals.{number, verdict, counted}

-- the refusal of a number
abbrev named : ℕ → Option StoreRefusal
named n =
    cond (eqb n 6) (Some Length) (cond (eqb n 30) (Some Full) (cond (eqb n 31) (Some Held) (cond (eqb n 32) (Some Missing) (cond (eqb n 33) (Some Entries)
    (cond (eqb n 34) (Some Owner) (cond (eqb n 35) (Some Quotas) (cond (eqb n 37) (Some Buffer) (cond (eqb n 39) (Some Damaged) None))))))))

named_is : (r : StoreRefusal) → named (number r) ≡ Some r
named_is Length = refl
named_is Full = refl
named_is Held = refl
named_is Missing = refl
named_is Entries = refl
named_is Owner = refl
named_is Quotas = refl
named_is Buffer = refl
named_is Damaged = refl

positive : (r : StoreRefusal) → 0 < number r
positive Length = omega arith
positive Full = omega arith
positive Held = omega arith
positive Missing = omega arith
positive Entries = omega arith
positive Owner = omega arith
positive Quotas = omega arith
positive Buffer = omega arith
positive Damaged = omega arith

pub number_one : (r s : StoreRefusal) → number r ≡ number s → r ≡ s
number_one r s e = same_Some r s (sym (named_is r) ∙ ap named e ∙ named_is s)

-- a call that is done or refused
pub verdict_one : (x y : Result ⊤ StoreRefusal) → verdict x ≡ verdict y → x ≡ y
verdict_one (Ok _) (Ok _) e = refl
verdict_one (Ok _) (Err s) e = absurd (omega (arith, positive s, ap (λ (a : Answer). a.answer) e))
verdict_one (Err r) (Ok _) e = absurd (omega (arith, positive r, ap (λ (a : Answer). a.answer) e))
verdict_one (Err r) (Err s) e = ap Err (number_one r s (ap (λ (a : Answer). a.answer) e))

-- a call that counts
pub counted_one : (x y : Result ℕ StoreRefusal) → counted x ≡ counted y → x ≡ y
counted_one (Ok n) (Ok m) e = ap Ok (ap (λ (a : Answer). a.count) e)
counted_one (Ok _) (Err s) e = absurd (omega (arith, positive s, ap (λ (a : Answer). a.answer) e))
counted_one (Err r) (Ok _) e = absurd (omega (arith, positive r, ap (λ (a : Answer). a.answer) e))
counted_one (Err r) (Err s) e = ap Err (number_one r s (ap (λ (a : Answer). a.answer) e))
