-- Where the block of a tile lies that was found in a sound store. A lemma.
use Rattle.std.specs.Prelude.{◌≡◌, refl, Bool, true, false, cond, not, List, ℕ, ◌<◌, Ok, Err}
use Rattle.std.proofs.Common.{arith, ltb-true, IfOk}
use Rattle.store_definition.specs.Store.{held_of, entry_of, holds, sound}
use Rattle.store_definition.specs.SoundLaws.{facts}
use Rattle.store_definition.specs.StartLaws.{start_ends}
use Rattle.store.specs.Parts.{LiesAt}
use Rattle.store.specs.Refusals.{looked_up}
use Rattle.store.specs.declared.refusal.StoreRefusal.TheVariants.{Damaged, Missing}

pub found : (entries : ℕ) (list tiles bytes : List ℕ) (t : ℕ) → IfOk (looked_up entries list tiles bytes t) (λ k. LiesAt list tiles bytes k)
unfolding looked_up
found entries list tiles bytes t = go (sound entries list tiles bytes) refl (holds list tiles bytes t) refl
  where
    go : (a : Bool) → sound entries list tiles bytes ≡ a → (b : Bool) → holds list tiles bytes t ≡ b
        → IfOk (cond (not a) (Err Damaged) (cond (not b) (Err Missing) (Ok (entry_of list tiles bytes t)))) (λ k. LiesAt list tiles bytes k)
    go false x b y = tt
    go true x false y = tt
    go true x true y =
        let k : ℕ = entry_of list tiles bytes t in
        let f = facts entries list tiles bytes x in
        let h : k < held_of list = ltb-true k (held_of list) y in
        let n = start_ends list k (held_of list) h (omega arith) in
        record { below = h; listed = omega arith; tiled = omega arith; start = omega arith; used = omega arith; few = omega arith }
