-- The promise of the tally determines the outcome: two that satisfy it are the same. Laws only.
use Rattle.std.specs.Prelude.{◌≡◌, refl, ℕ, Result, Ok, Err}
use Rattle.std.proofs.Common.{sym, ap, ◌∙◌, arith}
use Rattle.tally_definition.specs.Tallies.{Reply, outcome, reply_of}
use Rattle.tally_definition.specs.declared.Tally.{Tally}
use Rattle.tally_definition.specs.declared.Refusal.{Refusal}
use Rattle.tally_definition.specs.declared.Refusal.TheVariants.{NotFit, OutOfRange}

pub tally_one : (t : Tally) (answer passes : ℕ) (o p : Reply) → o ≡ outcome t answer passes → p ≡ outcome t answer passes → o ≡ p
tally_one t answer passes o p e f = e ∙ sym f

-- and a result is told by its reply
pub reply_one : (t : Tally) (x y : Result Tally Refusal) → reply_of t x ≡ reply_of t y → x ≡ y
reply_one t (Ok u) (Ok v) e = ap Ok (ap (λ (r : Reply). r.tally) e)
reply_one t (Ok _) (Err NotFit) e = absurd (omega (arith, ap (λ (r : Reply). r.refusal) e))
reply_one t (Ok _) (Err OutOfRange) e = absurd (omega (arith, ap (λ (r : Reply). r.refusal) e))
reply_one t (Err NotFit) (Ok _) e = absurd (omega (arith, ap (λ (r : Reply). r.refusal) e))
reply_one t (Err OutOfRange) (Ok _) e = absurd (omega (arith, ap (λ (r : Reply). r.refusal) e))
reply_one t (Err NotFit) (Err NotFit) e = refl
reply_one t (Err NotFit) (Err OutOfRange) e = absurd (omega (arith, ap (λ (r : Reply). r.refusal) e))
reply_one t (Err OutOfRange) (Err NotFit) e = absurd (omega (arith, ap (λ (r : Reply). r.refusal) e))
reply_one t (Err OutOfRange) (Err OutOfRange) e = refl
