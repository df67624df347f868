-- The promises of the store's calls determine the outcome: two that satisfy one are the same. Laws only.
use Rattle.std.specs.Prelude.{◌≡◌, List, ℕ}
use Rattle.answers.specs.declared.Answer.{Answer}
use Rattle.answers.proofs.OutcomeLaws.{one_outcome}
use Rattle.store_definition.specs.Store.{Outcome, set_up, put_of, length_held, fetch_of, drop_of}

module _ (entries : ℕ) (list tiles bytes : List ℕ) where
  pub set_up_one : (o p : Answer × List ℕ) → o ≡ set_up entries list tiles bytes → p ≡ set_up entries list tiles bytes → o ≡ p
  set_up_one = one_outcome (set_up entries list tiles bytes)

  pub put_one : (t : ℕ) (block : List ℕ) (o p : Outcome) → o ≡ put_of entries list tiles bytes t block → p ≡ put_of entries list tiles bytes t block → o ≡ p
  put_one t block = one_outcome (put_of entries list tiles bytes t block)

  pub length_one : (t : ℕ) (o p : Answer) → o ≡ length_held entries list tiles bytes t → p ≡ length_held entries list tiles bytes t → o ≡ p
  length_one t = one_outcome (length_held entries list tiles bytes t)

  pub fetch_one : (t : ℕ) (out : List ℕ) (o p : Answer × List ℕ) → o ≡ fetch_of entries list tiles bytes t out → p ≡ fetch_of entries list tiles bytes t out → o ≡ p
  fetch_one t out = one_outcome (fetch_of entries list tiles bytes t out)

  pub drop_one : (t : ℕ) (o p : Outcome) → o ≡ drop_of entries list tiles bytes t → p ≡ drop_of entries list tiles bytes t → o ≡ p
  drop_one t = one_outcome (drop_of entries list tiles bytes t)
