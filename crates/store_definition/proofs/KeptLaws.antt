-- Whatever a call is given, the arrays have their lengths after it, and the list its room. Laws only.
use Rattle.std.specs.Prelude.{◌≡◌, Bool, true, false, cond, not, List, [], ◌∷◌, ◌++◌, ℕ, ◌+◌, ◌-◌, ◌≤◌, ◌<◌, ltb, leb, take, drop, get_or, set}
use Rattle.std.proofs.Math.Path.{refl}
use Rattle.std.proofs.Common.{◌∙◌, arith, ltb-true, ltb-false, length-set, length-drop, length-take-le, get_or-take, get_or-set_other}
use Rattle.std.proofs.Math.ListN.{length}
use Rattle.std.proofs.lemmas.List.Edits.{length-paste}
use Rattle.store_definition.specs.Store.{closed, room_of, held_of, length_at, start_of, sound, Outcome, entry_of, holds, kept, added, removed, put_of, drop_of}
use Rattle.store_definition.specs.SoundLaws.{facts}
use Rattle.store_definition.specs.Calls.{Call, Put, Length, Fetch, Drop, Arrays, store_call}
use Rattle.store_definition.specs.StartLaws.{start_ends}

pub record Kept (s o : Arrays) : Type 0 where
  pub lists : length o.list ≡ length s.list
  pub tiled : length o.tiles ≡ length s.tiles
  pub whole : length o.bytes ≡ length s.bytes
  pub roomed : room_of o.list ≡ room_of s.list

pub same : (s : Arrays) → Kept s s
same s = record { lists = refl; tiled = refl; whole = refl; roomed = refl }

closed_same : (l : List ℕ) (at w n : ℕ) → at + w ≤ n → n ≤ length l → length (closed l at w n) ≡ length l
closed_same l at w n h k = length-paste l at (drop (at + w) l) (n - (at + w)) (omega arith) (omega (arith, length-drop (at + w) l))

closed_first : (l : List ℕ) (at w n : ℕ) → 0 < at → at ≤ length l → get_or (closed l at w n) 0 0 ≡ get_or l 0 0
closed_first l at w n h k =
    let p : List ℕ = take at l in
    let t : List ℕ = take (n - (at + w)) (drop (at + w) l) in
    let r : List ℕ = drop (at + (n - (at + w))) l in
    first p t r (omega (arith, length-take-le at l k)) ∙ get_or-take at l 0 0 h
  where
    first : (p t r : List ℕ) → 0 < length p → get_or (p ++ t ++ r) 0 0 ≡ get_or p 0 0
    first [] t r h = absurd (omega arith)
    first (x ∷ p) t r h = refl

module _ (entries : ℕ) (list tiles bytes : List ℕ) where
  abbrev given : Arrays
  given = record { list = list; tiles = tiles; bytes = bytes }

  put_keeps : (t : ℕ) (block : List ℕ) → Kept given (store_call entries (Put t block) given).1
  unfolding put_of
  put_keeps t block =
      go (sound entries list tiles bytes) refl (holds list tiles bytes t) (leb entries (held_of list)) (ltb (room_of list) (start_of list (held_of list) + length block)) refl
    where
      went : Outcome → Arrays
      went o = record { list = o.1; tiles = o.2; bytes = o.3 }

      go : (a : Bool) → sound entries list tiles bytes ≡ a → (b c d : Bool) → ltb (room_of list) (start_of list (held_of list) + length block) ≡ d
          → Kept given (went (cond (not a) (kept list tiles bytes 39)
          (cond b (kept list tiles bytes 31)
          (cond c (kept list tiles bytes 33)
          (cond d (kept list tiles bytes 30)
          (added list tiles bytes t block))))))
      go false e b c d f = same given
      go true e true c d f = same given
      go true e false true d f = same given
      go true e false false true f = same given
      go true e false false false f =
          let g = facts entries list tiles bytes e in
          let at : ℕ = start_of list (held_of list) in
          record {
            lists = length-set (set list (2 + held_of list) (length block)) 1 (held_of list + 1) ∙ length-set list (2 + held_of list) (length block);
            tiled = length-set tiles (held_of list) t;
            whole = length-paste bytes at block (length block) (omega (arith, g.whole, ltb-false (room_of list) (at + length block) f)) (omega arith);
            roomed =
                get_or-set_other (set list (2 + held_of list) (length block)) 1 0 (held_of list + 1) 0 (λ x. omega (arith, x))
                ∙ get_or-set_other list (2 + held_of list) 0 (length block) 0 (λ x. omega (arith, x));
          }

  drop_keeps : (t : ℕ) → Kept given (store_call entries (Drop t) given).1
  unfolding drop_of
  drop_keeps t = go (sound entries list tiles bytes) refl (holds list tiles bytes t) refl
    where
      went : Outcome → Arrays
      went o = record { list = o.1; tiles = o.2; bytes = o.3 }

      go : (a : Bool) → sound entries list tiles bytes ≡ a → (b : Bool) → holds list tiles bytes t ≡ b
          → Kept given (went (cond (not a) (kept list tiles bytes 39)
          (cond (not b) (kept list tiles bytes 32)
          (removed list tiles bytes (entry_of list tiles bytes t)))))
      go false e b f = same given
      go true e false f = same given
      go true e true f =
          let g = facts entries list tiles bytes e in
          let k : ℕ = entry_of list tiles bytes t in
          let h : k < held_of list = ltb-true k (held_of list) f in
          let c : List ℕ = closed list (2 + k) 1 (2 + held_of list) in
          record {
            lists =
                length-set c 1 (held_of list - 1) ∙ closed_same list (2 + k) 1 (2 + held_of list) (omega arith) (omega (arith, g.lists, g.few));
            tiled = closed_same tiles k 1 (held_of list) (omega arith) (omega (arith, g.tiled, g.few));
            whole = closed_same bytes (start_of list k) (length_at list k) (start_of list (held_of list))
                (start_ends list k (held_of list) h (omega (arith, g.lists, g.few))) (omega (arith, g.whole, g.fitting));
            roomed =
                get_or-set_other c 1 0 (held_of list - 1) 0 (λ x. omega (arith, x))
                ∙ closed_first list (2 + k) 1 (2 + held_of list) (omega arith) (omega (arith, g.lists, g.few));
          }

  pub call_keeps : (c : Call) → Kept given (store_call entries c given).1
  call_keeps (Put t b) = put_keeps t b
  call_keeps (Length t) = same given
  call_keeps (Fetch t out) = same given
  call_keeps (Drop t) = drop_keeps t
