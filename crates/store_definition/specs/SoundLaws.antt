-- What is known of a sound store. Laws only.
use Rattle.std.specs.Prelude.{◌≡◌, true, List, ℕ, ◌+◌, ◌≤◌, leb, eqb, length, take}
use borrow.Author.Tests.{leb-true, eqb-true, le-leb, eq-eqb}
use Rattle.grid.specs.LoopLaws.{both}
use Rattle.store_definition.specs.Store.{distinct, room_of, held_of, start_of, listed, sound}

pub record Facts (entries : ℕ) (list tiles bytes : List ℕ) : Type 0 where
  pub lists : length list ≡ 2 + entries
  pub tiled : length tiles ≡ entries
  pub small : room_of list ≤ 65536
  pub whole : length bytes ≡ room_of list
  pub few : held_of list ≤ entries
  pub fitting : start_of list (held_of list) ≤ room_of list
  pub unlike : distinct (take (held_of list) tiles) ≡ true

module _ (entries : ℕ) (list tiles : List ℕ) (e : listed entries list tiles ≡ true) where
  pub listed_lists : length list ≡ 2 + entries
  listed_lists = eqb-true (length list) (2 + entries) (both (eqb (length list) (2 + entries)) (eqb (length tiles) entries) e).0

  pub listed_tiled : length tiles ≡ entries
  listed_tiled = eqb-true (length tiles) entries (both (eqb (length list) (2 + entries)) (eqb (length tiles) entries) e).1

module _ (entries : ℕ) (list tiles bytes : List ℕ) where
  pub facts : sound entries list tiles bytes ≡ true → Facts entries list tiles bytes
  unfolding sound
  facts e =
      let f = both _ (distinct (take (held_of list) tiles)) e in
      let d = both _ (leb (start_of list (held_of list)) (room_of list)) f.0 in
      let c = both _ (leb (held_of list) entries) d.0 in
      let b = both _ (eqb (length bytes) (room_of list)) c.0 in
      let a = both _ (leb (room_of list) 65536) b.0 in
      record {
        lists = listed_lists entries list tiles a.0;
        tiled = listed_tiled entries list tiles a.0;
        small = leb-true (room_of list) 65536 a.1;
        whole = eqb-true (length bytes) (room_of list) b.1;
        few = leb-true (held_of list) entries c.1;
        fitting = leb-true (start_of list (held_of list)) (room_of list) d.1;
        unlike = f.1;
      }

  pub sounds : Facts entries list tiles bytes → sound entries list tiles bytes ≡ true
  unfolding sound
  sounds f =
      rw (
        eq-eqb (length list) (2 + entries) f.lists,
        eq-eqb (length tiles) entries f.tiled,
        le-leb (room_of list) 65536 f.small,
        eq-eqb (length bytes) (room_of list) f.whole,
        le-leb (held_of list) entries f.few,
        le-leb (start_of list (held_of list)) (room_of list) f.fitting,
      ) f.unlike
