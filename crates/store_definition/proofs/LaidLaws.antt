-- What is known of arrays that a set-up of two owners left, and of an owner's parts of them. Laws only.
use Rattle.std.proofs.Math.Path.{◌≡◌, refl}
use Rattle.std.proofs.Common.{arith}
use Rattle.std.specs.Prelude.{Bool, cond, not, ◌&&◌, List, ℕ, zero, suc, ◌+◌, ◌≤◌, ◌<◌, eqb, length}
use Rattle.std.proofs.Math.Bool.{true, false}
use borrow.Author.Tests.{leb-true, eqb-true, le-leb, lt-leb, eq-eqb}
use Rattle.std.proofs.Math.Dec.{leb}
use Rattle.std.proofs.Math.ListN.{get_or}
use Rattle.grid.specs.LoopLaws.{both}
use Rattle.store_definition.specs.Store.{room_of}
use Rattle.store_definition.specs.Owners.{quota_of, start_for, listed2, laid, barred, sound_for, sound_both}

pub record Laid (list tiles bytes : List ℕ) : Type 0 where
  pub lists : length list ≡ 70
  pub tiled : length tiles ≡ 64
  pub small : room_of list ≤ 65536
  pub whole : length bytes ≡ room_of list
  pub adding : quota_of 0 list + quota_of 1 list + get_or list 69 0 ≡ room_of list

module _ (list tiles : List ℕ) (e : listed2 list tiles ≡ true) where
  pub listed2_lists : length list ≡ 70
  listed2_lists = eqb-true (length list) 70 (both (eqb (length list) 70) (eqb (length tiles) 64) e).0

  pub listed2_tiled : length tiles ≡ 64
  listed2_tiled = eqb-true (length tiles) 64 (both (eqb (length list) 70) (eqb (length tiles) 64) e).1

module _ (list tiles bytes : List ℕ) where
  pub laid_facts : laid list tiles bytes ≡ true → Laid list tiles bytes
  unfolding laid
  laid_facts e =
      let d = both _ (eqb (quota_of 0 list + quota_of 1 list + get_or list 69 0) (room_of list)) e in
      let b = both _ (eqb (length bytes) (room_of list)) d.0 in
      let a = both _ (leb (room_of list) 65536) b.0 in
      record {
        lists = listed2_lists list tiles a.0;
        tiled = listed2_tiled list tiles a.0;
        small = leb-true (room_of list) 65536 a.1;
        whole = eqb-true (length bytes) (room_of list) b.1;
        adding = eqb-true (quota_of 0 list + quota_of 1 list + get_or list 69 0) (room_of list) d.1;
      }

  pub facts_laid : Laid list tiles bytes → laid list tiles bytes ≡ true
  unfolding laid
  facts_laid f =
      rw (
        eq-eqb (length list) 70 f.lists,
        eq-eqb (length tiles) 64 f.tiled,
        le-leb (room_of list) 65536 f.small,
        eq-eqb (length bytes) (room_of list) f.whole,
      ) (eq-eqb (quota_of 0 list + quota_of 1 list + get_or list 69 0) (room_of list) f.adding)

  pub both_laid : sound_both list tiles bytes ≡ true → laid list tiles bytes ≡ true
  unfolding sound_both
  both_laid e = (both (laid list tiles bytes) (sound_for 0 list tiles bytes) (both (laid list tiles bytes && sound_for 0 list tiles bytes) (sound_for 1 list tiles bytes) e).0).0

  -- 34 comes first of all
  pub nobody : (owner : ℕ) → 1 < owner → barred owner list tiles bytes ≡ 34
  unfolding barred
  nobody owner h = rw (lt-leb owner 1 h)

  -- nothing is barred: the owner is one of the two, and the arrays are laid
  pub admitted : (owner : ℕ) → barred owner list tiles bytes ≡ 0 → (owner ≤ 1) × Laid list tiles bytes
  unfolding barred
  admitted owner e = go (leb owner 1) refl (laid list tiles bytes) refl e
    where
      go : (a : Bool) → leb owner 1 ≡ a → (b : Bool) → laid list tiles bytes ≡ b → ◌≡◌ {A = ℕ} (cond (not a) 34 (cond (not b) 39 0)) 0 → (owner ≤ 1) × Laid list tiles bytes
      go false x b y e = absurd (omega arith)
      go true x false y e = absurd (omega arith)
      go true x true y e = (leb-true owner 1 x, laid_facts y)

  pub not_barred : (owner : ℕ) → owner ≤ 1 → Laid list tiles bytes → barred owner list tiles bytes ≡ 0
  unfolding barred
  not_barred owner h f = rw (le-leb owner 1 h, facts_laid f)

-- an owner's bytes lie in the quotas
pub start_least : (owner : ℕ) (list : List ℕ) → owner ≤ 1 → start_for owner list ≤ quota_of 0 list
start_least zero list h = omega arith
start_least (suc zero) list h = omega arith
start_least (suc (suc owner)) list h = absurd (omega arith)

pub bounded : (owner : ℕ) (list : List ℕ) → owner ≤ 1 → start_for owner list + quota_of owner list ≤ quota_of 0 list + quota_of 1 list
bounded zero list h = omega arith
bounded (suc zero) list h = omega arith
bounded (suc (suc owner)) list h = absurd (omega arith)
