-- The promises of the owners' calls determine the outcome: two that satisfy one are the same. Laws only.
use Rattle.std.specs.Prelude.{◌≡◌, List, ℕ}
use Rattle.answers.specs.declared.Answer.{Answer}
use Rattle.answers.proofs.OutcomeLaws.{one_outcome}
use Rattle.store_definition.specs.Store.{Outcome}
use Rattle.store_definition.specs.Owners.{set_up2, reset, put_for, length_for, fetch_for, drop_for}

module _ (list tiles bytes : List ℕ) where
  pub set_up2_one : (quota0 quota1 : ℕ) (o p : Answer × List ℕ) → o ≡ set_up2 list tiles bytes quota0 quota1 → p ≡ set_up2 list tiles bytes quota0 quota1 → o ≡ p
  set_up2_one quota0 quota1 = one_outcome (set_up2 list tiles bytes quota0 quota1)

  pub reset_one : (o p : Answer × List ℕ) → o ≡ reset list tiles bytes → p ≡ reset list tiles bytes → o ≡ p
  reset_one = one_outcome (reset list tiles bytes)

module _ (owner : ℕ) (list tiles bytes : List ℕ) where
  pub put_for_one : (t : ℕ) (block : List ℕ) (o p : Outcome) → o ≡ put_for owner list tiles bytes t block → p ≡ put_for owner list tiles bytes t block → o ≡ p
  put_for_one t block = one_outcome (put_for owner list tiles bytes t block)

  pub length_for_one : (t : ℕ) (o p : Answer) → o ≡ length_for owner list tiles bytes t → p ≡ length_for owner list tiles bytes t → o ≡ p
  length_for_one t = one_outcome (length_for owner list tiles bytes t)

  pub fetch_for_one : (t : ℕ) (out : List ℕ) (o p : Answer × List ℕ) → o ≡ fetch_for owner list tiles bytes t out → p ≡ fetch_for owner list tiles bytes t out → o ≡ p
  fetch_for_one t out = one_outcome (fetch_for owner list tiles bytes t out)

  pub drop_for_one : (t : ℕ) (o p : Outcome) → o ≡ drop_for owner list tiles bytes t → p ≡ drop_for owner list tiles bytes t → o ≡ p
  drop_for_one t = one_outcome (drop_for owner list tiles bytes t)
