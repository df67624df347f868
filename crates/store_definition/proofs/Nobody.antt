-- A call of an owner that is neither 0 nor 1 is refused with 34, whatever the arrays hold, and touches nothing. Laws only.
use Rattle.std.specs.Prelude.{◌≡◌, List, ℕ, ◌<◌}
use Rattle.std.proofs.Common.{◌∙◌}
use Rattle.answers.specs.Answers.{refused}
use Rattle.answers.specs.declared.Answer.{Answer}
use Rattle.store_definition.specs.Store.{Outcome}
use Rattle.store_definition.specs.Owners.{put_for, length_for, fetch_for, drop_for}
use Rattle.store_definition.proofs.LaidLaws.{nobody}

module _ (owner : ℕ) (stranger : 1 < owner) (list tiles bytes : List ℕ) where
  put_34 : (t : ℕ) (block : List ℕ) → put_for owner list tiles bytes t block ≡ (refused 34 0, list, tiles, bytes)
  unfolding put_for
  put_34 t block = rw (nobody list tiles bytes owner stranger)

  length_34 : (t : ℕ) → length_for owner list tiles bytes t ≡ refused 34 0
  unfolding length_for
  length_34 t = rw (nobody list tiles bytes owner stranger)

  fetch_34 : (t : ℕ) (out : List ℕ) → fetch_for owner list tiles bytes t out ≡ (refused 34 0, out)
  unfolding fetch_for
  fetch_34 t out = rw (nobody list tiles bytes owner stranger)

  drop_34 : (t : ℕ) → drop_for owner list tiles bytes t ≡ (refused 34 0, list, tiles, bytes)
  unfolding drop_for
  drop_34 t = rw (nobody list tiles bytes owner stranger)

  -- of calls that meet their promises
  pub nobody_put : (t : ℕ) (block : List ℕ) (o : Outcome) → o ≡ put_for owner list tiles bytes t block → o ≡ (refused 34 0, list, tiles, bytes)
  nobody_put t block o p = p ∙ put_34 t block

  pub nobody_length : (t : ℕ) (o : Answer) → o ≡ length_for owner list tiles bytes t → o ≡ refused 34 0
  nobody_length t o p = p ∙ length_34 t

  pub nobody_fetch : (t : ℕ) (out : List ℕ) (o : Answer × List ℕ) → o ≡ fetch_for owner list tiles bytes t out → o ≡ (refused 34 0, out)
  nobody_fetch t out o p = p ∙ fetch_34 t out

  pub nobody_drop : (t : ℕ) (o : Outcome) → o ≡ drop_for owner list tiles bytes t → o ≡ (refused 34 0, list, tiles, bytes)
  nobody_drop t o p = p ∙ drop_34 t
