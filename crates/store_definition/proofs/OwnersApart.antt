-- The owners are apart: in every sequence of both owners' calls and of resets, what an owner sees is what its own calls and the same resets give on a store of its own. Laws only.
use Rattle.std.specs.Prelude.{◌≡◌, refl, ◌⊎◌, Bool, true, false, cond, ◌&&◌, List, [], ◌∷◌, ℕ, zero, suc, ◌+◌, ◌-◌, ◌*◌, ◌≤◌, eqb, length, drop, get_or, set}
use Rattle.std.proofs.Common.{sym, ap, ◌∙◌, subst, inl, inr, arith, length-set, get_or-set_same, get_or-set_other}
use borrow.Author.Tests.{le-ltb, eqb-true, eqb-false, eq-eqb, ne_eqb}
use Rattle.grid.specs.LoopLaws.{both}
use Rattle.answers.specs.declared.Answer.{Answer}
use Rattle.answers.specs.Answers.{done}
use Rattle.store_definition.specs.Store.{room_of, held_of, listed, sound}
use Rattle.store_definition.specs.Calls.{Call, Put, Length, Fetch, Drop, Event, Do, Seen, run, map_step, Arrays, store_call, store_reset, store_step}
use Rattle.store_definition.proofs.Sequence.{list_is, set_up_is, emptied, emptied_sound, call_sound, as_a_map}
use Rattle.store_definition.proofs.KeptLaws.{Kept, call_keeps}
use Rattle.store_definition.specs.Owners.{part, patched, quota_of, start_for, listed2, laid, barred, set_up2, sound_for, sound_both, reset, put_for, length_for, fetch_for, drop_for}
use Rattle.store_definition.proofs.LaidLaws.{Laid, listed2_lists, listed2_tiled, laid_facts, facts_laid, both_laid, admitted, not_barred, bounded}
use Rattle.store_definition.specs.OwnersEvents.{Event2, By, ResetBoth, own_arrays, call_for, reset_both, two_step, resets, own_events, own_seen}
use Rattle.store_definition.specs.PartLaws.{part_length, patched_part, part_patched, patched_length, part_apart, first_of, part_set, part_set_before, part_set_behind}

-- ---- two owners, and their parts

pub two_owners : (o p : ℕ) → o ≤ 1 → p ≤ 1 → (p ≡ o → ⊥) → (P : ℕ → ℕ → Type 0) → P 0 1 → P 1 0 → P o p
two_owners zero zero h k ne P x y = absurd (ne refl)
two_owners zero (suc zero) h k ne P x y = x
two_owners zero (suc (suc p)) h k ne P x y = absurd (omega arith)
two_owners (suc zero) zero h k ne P x y = y
two_owners (suc zero) (suc zero) h k ne P x y = absurd (ne refl)
two_owners (suc zero) (suc (suc p)) h k ne P x y = absurd (omega arith)
two_owners (suc (suc o)) p h k ne P x y = absurd (omega arith)

one_of_two : (o : ℕ) → o ≤ 1 → (P : ℕ → Type 0) → P 0 → P 1 → P o
one_of_two zero h P x y = x
one_of_two (suc zero) h P x y = y
one_of_two (suc (suc o)) h P x y = absurd (omega arith)

module _ (o p : ℕ) (h : o ≤ 1) (k : p ≤ 1) (ne : p ≡ o → ⊥) where
  lists_apart : (1 + o * 34 + 34 ≤ 1 + p * 34) ⊎ (1 + p * 34 + 34 ≤ 1 + o * 34)
  lists_apart = two_owners o p h k ne (λ o p. (1 + o * 34 + 34 ≤ 1 + p * 34) ⊎ (1 + p * 34 + 34 ≤ 1 + o * 34)) (inl (omega arith)) (inr (omega arith))

  tiles_apart : (o * 32 + 32 ≤ p * 32) ⊎ (p * 32 + 32 ≤ o * 32)
  tiles_apart = two_owners o p h k ne (λ o p. (o * 32 + 32 ≤ p * 32) ⊎ (p * 32 + 32 ≤ o * 32)) (inl (omega arith)) (inr (omega arith))

  bytes_apart : (list : List ℕ) → (start_for o list + quota_of o list ≤ start_for p list) ⊎ (start_for p list + quota_of p list ≤ start_for o list)
  bytes_apart list =
      two_owners o p h k ne (λ o p. (start_for o list + quota_of o list ≤ start_for p list) ⊎ (start_for p list + quota_of p list ≤ start_for o list))
      (inl (omega arith)) (inr (omega arith))

-- the arrays, with others in an owner's place
abbrev pub restored : ℕ → Arrays → Arrays → Arrays
restored o w s = record {
  list = patched w.list (1 + o * 34) 34 s.list;
  tiles = patched w.tiles (o * 32) 32 s.tiles;
  bytes = patched w.bytes (start_for o w.list) (quota_of o w.list) s.bytes;
}

abbrev pub LaidOut : Arrays → Type 0
LaidOut w = Laid w.list w.tiles w.bytes

module _ (o : ℕ) (h : o ≤ 1) (w : Arrays) (f : LaidOut w) where
  in_list : 1 + o * 34 + 34 ≤ length w.list
  in_list = omega (arith, f.lists)

  in_tiles : o * 32 + 32 ≤ length w.tiles
  in_tiles = omega (arith, f.tiled)

  in_bytes : start_for o w.list + quota_of o w.list ≤ length w.bytes
  in_bytes = omega (arith, bounded o w.list h, f.whole, f.adding)

  own_lists : length (own_arrays o w).list ≡ 34
  own_lists = part_length w.list (1 + o * 34) 34 in_list

  own_tiled : length (own_arrays o w).tiles ≡ 32
  own_tiled = part_length w.tiles (o * 32) 32 in_tiles

  own_whole : length (own_arrays o w).bytes ≡ quota_of o w.list
  own_whole = part_length w.bytes (start_for o w.list) (quota_of o w.list) in_bytes

  -- its quota is its store's room
  own_room : room_of (own_arrays o w).list ≡ quota_of o w.list
  own_room = first_of w.list (1 + o * 34) 33

  restored_same : restored o w (own_arrays o w) ≡ w
  restored_same =
      rw (patched_part w.list (1 + o * 34) 34 in_list, patched_part w.tiles (o * 32) 32 in_tiles, patched_part w.bytes (start_for o w.list) (quota_of o w.list) in_bytes)

  -- an owner's call is its store's own call, and what that leaves put back
  pub call_is : (c : Call) → call_for o c w ≡ ((store_call 32 c (own_arrays o w)).0, restored o w (store_call 32 c (own_arrays o w)).1)
  unfolding put_for length_for fetch_for drop_for
  call_is (Put t b) = rw (eq-eqb (barred o w.list w.tiles w.bytes) 0 (not_barred w.list w.tiles w.bytes o h f))
  call_is (Length t) =
      rw (eq-eqb (barred o w.list w.tiles w.bytes) 0 (not_barred w.list w.tiles w.bytes o h f))
      (ap (λ (x : Arrays). ((store_call 32 (Length t) (own_arrays o w)).0, x)) (sym restored_same))
  call_is (Fetch t out) =
      rw (eq-eqb (barred o w.list w.tiles w.bytes) 0 (not_barred w.list w.tiles w.bytes o h f))
      (ap (λ (x : Arrays). ((store_call 32 (Fetch t out) (own_arrays o w)).0, x)) (sym restored_same))
  call_is (Drop t) = rw (eq-eqb (barred o w.list w.tiles w.bytes) 0 (not_barred w.list w.tiles w.bytes o h f))

  -- ---- others of the same lengths and room in its place

  module _ (s : Arrays) (r : Kept (own_arrays o w) s) where
    s_lists : length s.list ≡ 34
    s_lists = r.lists ∙ own_lists

    s_tiled : length s.tiles ≡ 32
    s_tiled = r.tiled ∙ own_tiled

    s_whole : length s.bytes ≡ quota_of o w.list
    s_whole = r.whole ∙ own_whole

    abbrev w' : Arrays
    w' = restored o w s

    own_list_after : part w'.list (1 + o * 34) 34 ≡ s.list
    own_list_after = part_patched w.list (1 + o * 34) 34 in_list s.list s_lists

    quota_own : quota_of o w'.list ≡ quota_of o w.list
    quota_own = sym (first_of w'.list (1 + o * 34) 33) ∙ ap room_of own_list_after ∙ r.roomed ∙ own_room

    room_same : room_of w'.list ≡ room_of w.list
    room_same =
        sym (first_of w'.list 0 0) ∙ ap room_of (part_apart w.list (1 + o * 34) 34 in_list s.list s_lists 0 1 (inl (omega arith))) ∙ first_of w.list 0 0

    left_same : get_or w'.list 69 0 ≡ get_or w.list 69 0
    left_same =
        sym (first_of w'.list 69 0) ∙ ap room_of (part_apart w.list (1 + o * 34) 34 in_list s.list s_lists 69 1 (inr (omega arith))) ∙ first_of w.list 69 0

    other_list : (p : ℕ) → p ≤ 1 → (o ≡ p → ⊥) → part w'.list (1 + p * 34) 34 ≡ part w.list (1 + p * 34) 34
    other_list p k ne = part_apart w.list (1 + o * 34) 34 in_list s.list s_lists (1 + p * 34) 34 (lists_apart p o k h ne)

    quota_other : (p : ℕ) → p ≤ 1 → (o ≡ p → ⊥) → quota_of p w'.list ≡ quota_of p w.list
    quota_other p k ne = sym (first_of w'.list (1 + p * 34) 33) ∙ ap room_of (other_list p k ne) ∙ first_of w.list (1 + p * 34) 33

    quota_same : (p : ℕ) → p ≤ 1 → quota_of p w'.list ≡ quota_of p w.list
    quota_same p k = go (eqb o p) refl
      where
        go : (b : Bool) → eqb o p ≡ b → quota_of p w'.list ≡ quota_of p w.list
        go true e = subst (λ (q : ℕ). quota_of q w'.list ≡ quota_of q w.list) (eqb-true o p e) quota_own
        go false e = quota_other p k (eqb-false o p e)

    start_same : (p : ℕ) → start_for p w'.list ≡ start_for p w.list
    start_same p = ap (λ (q : ℕ). p * q) (quota_same 0 (omega arith))

    still_laid : LaidOut w'
    still_laid = record {
      lists = patched_length w.list (1 + o * 34) 34 in_list s.list s_lists ∙ f.lists;
      tiled = patched_length w.tiles (o * 32) 32 in_tiles s.tiles s_tiled ∙ f.tiled;
      small = omega (arith, room_same, f.small);
      whole =
          patched_length w.bytes (start_for o w.list) (quota_of o w.list) in_bytes s.bytes s_whole ∙ f.whole ∙ sym room_same;
      adding = omega (arith, room_same, quota_same 0 (omega arith), quota_same 1 (omega arith), left_same, f.adding);
    }

    -- an owner's parts, by where they stand
    bytes_of : (p : ℕ) → p ≤ 1 → (own_arrays p w').bytes ≡ part w'.bytes (start_for p w.list) (quota_of p w.list)
    bytes_of p k =
        ap (λ (a : ℕ). part w'.bytes a (quota_of p w'.list)) (start_same p) ∙ ap (part w'.bytes (start_for p w.list)) (quota_same p k)

    own_after : own_arrays o w' ≡ s
    own_after =
        rw (
          own_list_after,
          part_patched w.tiles (o * 32) 32 in_tiles s.tiles s_tiled,
          bytes_of o h,
          part_patched w.bytes (start_for o w.list) (quota_of o w.list) in_bytes s.bytes s_whole,
        )

    other_after : (p : ℕ) → p ≤ 1 → (o ≡ p → ⊥) → own_arrays p w' ≡ own_arrays p w
    other_after p k ne =
        rw (
          other_list p k ne,
          part_apart w.tiles (o * 32) 32 in_tiles s.tiles s_tiled (p * 32) 32 (tiles_apart p o k h ne),
          bytes_of p k,
          part_apart w.bytes (start_for o w.list) (quota_of o w.list) in_bytes s.bytes s_whole (start_for p w.list) (quota_of p w.list) (bytes_apart p o k h ne w.list),
        )

  -- ---- a call of the owner

  keeps : (c : Call) → Kept (own_arrays o w) (store_call 32 c (own_arrays o w)).1
  keeps c = call_keeps 32 (own_arrays o w).list (own_arrays o w).tiles (own_arrays o w).bytes c

  own_seen_lem : (c : Call) → (call_for o c w).0 ≡ (store_call 32 c (own_arrays o w)).0
  own_seen_lem c = ap (λ (x : Seen × Arrays). x.0) (call_is c)

  own_laid : (c : Call) → LaidOut (call_for o c w).1
  own_laid c = subst (λ (x : Seen × Arrays). LaidOut x.1) (sym (call_is c)) (still_laid (store_call 32 c (own_arrays o w)).1 (keeps c))

  own_step : (c : Call) → own_arrays o (call_for o c w).1 ≡ (store_call 32 c (own_arrays o w)).1
  own_step c = ap (λ (x : Seen × Arrays). own_arrays o x.1) (call_is c) ∙ own_after (store_call 32 c (own_arrays o w)).1 (keeps c)

  other_step : (c : Call) (p : ℕ) → p ≤ 1 → (o ≡ p → ⊥) → own_arrays p (call_for o c w).1 ≡ own_arrays p w
  other_step c p k ne = ap (λ (x : Seen × Arrays). own_arrays p x.1) (call_is c) ∙ other_after (store_call 32 c (own_arrays o w)).1 (keeps c) p k ne

-- ---- a call that is barred changes nothing

barred_is : (p : ℕ) (w : Arrays) → (barred p w.list w.tiles w.bytes ≡ 0 → ⊥) → (c : Call) → (call_for p c w).1 ≡ w
unfolding put_for length_for fetch_for drop_for
barred_is p w ne (Put t b) = rw (ne_eqb (barred p w.list w.tiles w.bytes) 0 ne)
barred_is p w ne (Length t) = refl
barred_is p w ne (Fetch t out) = refl
barred_is p w ne (Drop t) = rw (ne_eqb (barred p w.list w.tiles w.bytes) 0 ne)

-- no call of another changes anything of an owner's parts, whatever the arrays hold
pub part_kept : (o p : ℕ) → o ≤ 1 → (p ≡ o → ⊥) → (c : Call) (w : Arrays) → own_arrays o (call_for p c w).1 ≡ own_arrays o w
part_kept o p h ne c w = go (eqb (barred p w.list w.tiles w.bytes) 0) refl
  where
    go : (b : Bool) → eqb (barred p w.list w.tiles w.bytes) 0 ≡ b → own_arrays o (call_for p c w).1 ≡ own_arrays o w
    go true e =
        let a = admitted w.list w.tiles w.bytes p (eqb-true (barred p w.list w.tiles w.bytes) 0 e) in
        other_step p a.0 w a.1 c o h ne
    go false e = ap (own_arrays o) (barred_is p w (eqb-false (barred p w.list w.tiles w.bytes) 0 e) c)

other_laid : (p : ℕ) (c : Call) (w : Arrays) → LaidOut w → LaidOut (call_for p c w).1
other_laid p c w f = go (eqb (barred p w.list w.tiles w.bytes) 0) refl
  where
    go : (b : Bool) → eqb (barred p w.list w.tiles w.bytes) 0 ≡ b → LaidOut (call_for p c w).1
    go true e =
        let a = admitted w.list w.tiles w.bytes p (eqb-true (barred p w.list w.tiles w.bytes) 0 e) in
        own_laid p a.0 w f c
    go false e = subst LaidOut (sym (barred_is p w (eqb-false (barred p w.list w.tiles w.bytes) 0 e) c)) f

-- ---- both owners' lists sound

abbrev pub SoundOut : Arrays → Bool
SoundOut w = sound_both w.list w.tiles w.bytes

abbrev SoundIn : ℕ → Arrays → Bool
SoundIn o w = sound_for o w.list w.tiles w.bytes

sound_of : (w : Arrays) → LaidOut w → SoundIn 0 w ≡ true → SoundIn 1 w ≡ true → SoundOut w ≡ true
unfolding sound_both
sound_of w f a b = rw (facts_laid w.list w.tiles w.bytes f, a) b

module _ (w : Arrays) (e : SoundOut w ≡ true) where
  parts : ((laid w.list w.tiles w.bytes && SoundIn 0 w) ≡ true) × (SoundIn 1 w ≡ true)
  unfolding sound_both
  parts = both _ (SoundIn 1 w) e

  sound_laid : LaidOut w
  sound_laid = laid_facts w.list w.tiles w.bytes (both_laid w.list w.tiles w.bytes e)

  sound_own : (o : ℕ) → o ≤ 1 → SoundIn o w ≡ true
  sound_own o h = one_of_two o h (λ o. SoundIn o w ≡ true) (both (laid w.list w.tiles w.bytes) (SoundIn 0 w) parts.0).1 parts.1

-- an owner's list after a call of an owner
each : (p : ℕ) → p ≤ 1 → (c : Call) (w : Arrays) → SoundOut w ≡ true → (o : ℕ) → o ≤ 1 → SoundIn o (call_for p c w).1 ≡ true
each p k c w e o h = go (eqb p o) refl
  where
    go : (b : Bool) → eqb p o ≡ b → SoundIn o (call_for p c w).1 ≡ true
    go true x =
        subst (λ (q : ℕ). SoundIn q (call_for p c w).1 ≡ true) (eqb-true p o x)
        (subst (λ (s : Arrays). sound 32 s.list s.tiles s.bytes ≡ true) (sym (own_step p k w (sound_laid w e) c)) (call_sound 32 (own_arrays p w) (sound_own w e p k) c))
    go false x =
        subst (λ (s : Arrays). sound 32 s.list s.tiles s.bytes ≡ true) (sym (part_kept o p h (eqb-false p o x) c w)) (sound_own w e o h)

-- ---- a reset

module _ (w : Arrays) (f : LaidOut w) where
  abbrev w0 : Arrays
  w0 = record { list = set (set w.list 2 0) 36 0; tiles = w.tiles; bytes = w.bytes }

  reset_is : SoundOut w ≡ true → reset_both w ≡ ((done 0, []), w0)
  unfolding reset
  reset_is e = rw e

  kept_at : (i : ℕ) → (i ≡ 2 → ⊥) → (i ≡ 36 → ⊥) → get_or w0.list i 0 ≡ get_or w.list i 0
  kept_at i a b = get_or-set_other (set w.list 2 0) 36 i 0 0 b ∙ get_or-set_other w.list 2 i 0 0 a

  quota_reset : (o : ℕ) → o ≤ 1 → quota_of o w0.list ≡ quota_of o w.list
  quota_reset o h = one_of_two o h (λ o. quota_of o w0.list ≡ quota_of o w.list) (kept_at 1 (λ x. omega (arith, x)) (λ x. omega (arith, x))) (kept_at 35 (λ x. omega (arith, x)) (λ x. omega (arith, x)))

  reset_laid : LaidOut w0
  reset_laid =
      let r : room_of w0.list ≡ room_of w.list = kept_at 0 (λ x. omega (arith, x)) (λ x. omega (arith, x)) in
      record {
        lists = length-set (set w.list 2 0) 36 0 ∙ length-set w.list 2 0 ∙ f.lists;
        tiled = f.tiled;
        small = omega (arith, r, f.small);
        whole = f.whole ∙ sym r;
        adding = omega (arith, r, quota_reset 0 (omega arith), quota_reset 1 (omega arith), kept_at 69 (λ x. omega (arith, x)) (λ x. omega (arith, x)), f.adding);
      }

  -- the number held is 0, and nothing else of the list is another one
  list_reset : (o : ℕ) → o ≤ 1 → (own_arrays o w0).list ≡ set (own_arrays o w).list 1 0
  list_reset o h =
      one_of_two o h (λ o. (own_arrays o w0).list ≡ set (own_arrays o w).list 1 0)
      (part_set_behind (set w.list 2 0) 1 34 35 0 (omega arith) ∙ part_set w.list 1 34 1 0 (omega arith))
      (part_set (set w.list 2 0) 35 34 1 0 (omega arith) ∙ ap (λ (l : List ℕ). set l 1 0) (part_set_before w.list 35 34 2 0 (omega arith)))

  module _ (o : ℕ) (h : o ≤ 1) where
    abbrev own : Arrays
    own = own_arrays o w

    own_listed : listed 32 own.list own.tiles ≡ true
    own_listed = rw (eq-eqb (length own.list) 34 (own_lists o h w f), eq-eqb (length own.tiles) 32 (own_tiled o h w f))

    own_small : length own.bytes ≤ 65536
    own_small = omega (arith, own_whole o h w f, bounded o w.list h, f.adding, f.small)

    own_shape : own.list ≡ length own.bytes ∷ held_of own.list ∷ drop 2 own.list
    own_shape = list_is own.list 32 (own_lists o h w f) ∙ ap (λ (n : ℕ). n ∷ held_of own.list ∷ drop 2 own.list) (own_room o h w f ∙ sym (own_whole o h w f))

    bytes_reset : (own_arrays o w0).bytes ≡ own.bytes
    bytes_reset =
        ap (λ (q : ℕ). part w.bytes (o * q) (quota_of o w0.list)) (quota_reset 0 (omega arith))
        ∙ ap (part w.bytes (start_for o w.list)) (quota_reset o h)

    own_reset : store_reset 32 own ≡ ((done 0, []), own_arrays o w0)
    own_reset =
        let e : (own_arrays o w0).list ≡ length own.bytes ∷ 0 ∷ drop 2 own.list =
        list_reset o h ∙ ap (λ (l : List ℕ). set l 1 0) own_shape in
        rw (set_up_is 32 own.list own.tiles own.bytes own_small own_listed, ← e, ← bytes_reset)

    reset_sound : SoundIn o w0 ≡ true
    reset_sound =
        subst (λ (s : Arrays). sound 32 s.list s.tiles s.bytes ≡ true) (ap (λ (x : Seen × Arrays). x.1) own_reset)
        (emptied_sound 32 own.list own.tiles own.bytes own_small own_listed)

  reset_keeps : SoundOut w0 ≡ true
  reset_keeps = sound_of w0 reset_laid (reset_sound 0 (omega arith)) (reset_sound 1 (omega arith))

-- ---- both owners' lists stay sound

call_keeps_sound : (p : ℕ) (c : Call) (w : Arrays) → SoundOut w ≡ true → SoundOut (call_for p c w).1 ≡ true
call_keeps_sound p c w e = go (eqb (barred p w.list w.tiles w.bytes) 0) refl
  where
    f : LaidOut w
    f = sound_laid w e

    go : (b : Bool) → eqb (barred p w.list w.tiles w.bytes) 0 ≡ b → SoundOut (call_for p c w).1 ≡ true
    go true x =
        let h : p ≤ 1 = (admitted w.list w.tiles w.bytes p (eqb-true (barred p w.list w.tiles w.bytes) 0 x)).0 in
        sound_of (call_for p c w).1 (own_laid p h w f c) (each p h c w e 0 (omega arith)) (each p h c w e 1 (omega arith))
    go false x = subst (λ (v : Arrays). SoundOut v ≡ true) (sym (barred_is p w (eqb-false (barred p w.list w.tiles w.bytes) 0 x) c)) e

-- after a call, whoever makes it, and after a reset
pub step_sound : (e : Event2) (w : Arrays) → SoundOut w ≡ true → SoundOut (two_step e w).1 ≡ true
step_sound (By p c) w e = call_keeps_sound p c w e
step_sound ResetBoth w e =
    let f = sound_laid w e in
    subst (λ (x : Seen × Arrays). SoundOut x.1 ≡ true) (sym (reset_is w f e)) (reset_keeps w f)

-- ---- sequences

follows : (o : ℕ) → o ≤ 1 → (es : List Event2) (w : Arrays) → LaidOut w → (resets es ≡ true → SoundOut w ≡ true)
    → own_seen o es (run two_step es w) ≡ run (store_step 32) (own_events o es) (own_arrays o w)
unfolding run own_events own_seen resets
follows o h [] w f s = refl
follows o h (By p c ∷ es) w f s = go (eqb p o) refl (follows o h es (call_for p c w).1 (other_laid p c w f) (λ r. call_keeps_sound p c w (s r)))
  where
    next : List Seen
    next = own_seen o es (run two_step es (call_for p c w).1)

    go : (b : Bool) → eqb p o ≡ b → own_seen o es (run two_step es (call_for p c w).1) ≡ run (store_step 32) (own_events o es) (own_arrays o (call_for p c w).1)
        → cond (eqb p o) ((call_for p c w).0 ∷ own_seen o es (run two_step es (call_for p c w).1)) (own_seen o es (run two_step es (call_for p c w).1))
        ≡ run (store_step 32) (cond (eqb p o) (Do c ∷ own_events o es) (own_events o es)) (own_arrays o w)
    go true e g =
        let q : p ≡ o = eqb-true p o e in
        let a : (call_for p c w).0 ≡ (store_call 32 c (own_arrays o w)).0 = ap (λ (i : ℕ). (call_for i c w).0) q ∙ own_seen_lem o h w f c in
        let b : own_arrays o (call_for p c w).1 ≡ (store_call 32 c (own_arrays o w)).1 = ap (λ (i : ℕ). own_arrays o (call_for i c w).1) q ∙ own_step o h w f c in
        rw e (
        ap (λ (x : Seen). x ∷ own_seen o es (run two_step es (call_for p c w).1)) a
        ∙ ap (λ (l : List Seen). (store_call 32 c (own_arrays o w)).0 ∷ l) (g ∙ ap (run (store_step 32) (own_events o es)) b)
        )
    go false e g = rw e (g ∙ ap (run (store_step 32) (own_events o es)) (part_kept o p h (eqb-false p o e) c w))
follows o h (ResetBoth ∷ es) w f s =
    let x = reset_is w f (s refl) in
    let y = own_reset w f o h in
    let g : own_seen o es (run two_step es (w0 w f)) ≡ run (store_step 32) (own_events o es) (own_arrays o (w0 w f)) = follows o h es (w0 w f) (reset_laid w f) (λ r. reset_keeps w f) in
    ap (λ (z : Seen × Arrays). z.0 ∷ own_seen o es (run two_step es z.1)) x
    ∙ ap (λ (l : List Seen). (done 0, []) ∷ l) g
    ∙ ap (λ (z : Seen × Arrays). z.0 ∷ run (store_step 32) (own_events o es) z.1) (sym y)

-- ---- the theorem: what an owner sees is what its own calls and the same resets give on its own parts, from any arrays that are laid, whatever the owners' lists hold; where a reset is
-- among the events, both owners' lists must be sound, since a reset of others is refused

pub owners_apart : (o : ℕ) → o ≤ 1 → (es : List Event2) (w : Arrays) → laid w.list w.tiles w.bytes ≡ true
    → (resets es ≡ true → sound_both w.list w.tiles w.bytes ≡ true) → own_seen o es (run two_step es w) ≡ run (store_step 32) (own_events o es) (own_arrays o w)
owners_apart o h es w e s = follows o h es w (laid_facts w.list w.tiles w.bytes e) s

-- two sequences that agree on an owner's calls and the resets agree on that owner's answers
pub owners_agree : (o : ℕ) → o ≤ 1 → (es es' : List Event2) (w w' : Arrays) → laid w.list w.tiles w.bytes ≡ true → laid w'.list w'.tiles w'.bytes ≡ true
    → (resets es ≡ true → sound_both w.list w.tiles w.bytes ≡ true) → (resets es' ≡ true → sound_both w'.list w'.tiles w'.bytes ≡ true)
    → own_arrays o w ≡ own_arrays o w' → own_events o es ≡ own_events o es' → own_seen o es (run two_step es w) ≡ own_seen o es' (run two_step es' w')
owners_agree o h es es' w w' e e' s s' a b =
    owners_apart o h es w e s ∙ ap (λ (l : List Event). run (store_step 32) l (own_arrays o w)) b ∙ ap (run (store_step 32) (own_events o es')) a ∙ sym (owners_apart o h es' w' e' s')

-- ---- from a set-up

module _ (list tiles bytes : List ℕ) (quota0 quota1 : ℕ) (small : length bytes ≤ 65536) (fit : quota0 + quota1 ≤ length bytes) (e : listed2 list tiles ≡ true) where
  -- the list with all but its last number set, and the whole of it
  abbrev list5 : List ℕ
  list5 = set (set (set (set (set list 0 (length bytes)) 1 quota0) 2 0) 35 quota1) 36 0

  abbrev list0 : List ℕ
  list0 = set list5 69 (length bytes - quota0 - quota1)

  -- the arrays after it
  abbrev pub emptied2 : Arrays
  emptied2 = record { list = (set_up2 list tiles bytes quota0 quota1).1; tiles = tiles; bytes = bytes }

  pub set_up2_is : set_up2 list tiles bytes quota0 quota1 ≡ (done 0, list0)
  unfolding set_up2
  set_up2_is = rw (le-ltb 65536 (length bytes) small, le-ltb (length bytes) (quota0 + quota1) fit, e)

  emptied_is : emptied2 ≡ record { list = list0; tiles = tiles; bytes = bytes }
  emptied_is = ap (λ (x : Answer × List ℕ). record { list = x.1; tiles = tiles; bytes = bytes }) set_up2_is

  long : length list ≡ 70
  long = listed2_lists list tiles e

  at_room : room_of list0 ≡ length bytes
  at_room =
      get_or-set_other list5 69 0 (length bytes - quota0 - quota1) 0 (λ x. omega (arith, x))
      ∙ get_or-set_other (set (set (set (set list 0 (length bytes)) 1 quota0) 2 0) 35 quota1) 36 0 0 0 (λ x. omega (arith, x))
      ∙ get_or-set_other (set (set (set list 0 (length bytes)) 1 quota0) 2 0) 35 0 quota1 0 (λ x. omega (arith, x))
      ∙ get_or-set_other (set (set list 0 (length bytes)) 1 quota0) 2 0 0 0 (λ x. omega (arith, x))
      ∙ get_or-set_other (set list 0 (length bytes)) 1 0 quota0 0 (λ x. omega (arith, x))
      ∙ get_or-set_same list 0 (length bytes) 0 (omega (arith, long))

  at_quota0 : quota_of 0 list0 ≡ quota0
  at_quota0 =
      get_or-set_other list5 69 1 (length bytes - quota0 - quota1) 0 (λ x. omega (arith, x))
      ∙ get_or-set_other (set (set (set (set list 0 (length bytes)) 1 quota0) 2 0) 35 quota1) 36 1 0 0 (λ x. omega (arith, x))
      ∙ get_or-set_other (set (set (set list 0 (length bytes)) 1 quota0) 2 0) 35 1 quota1 0 (λ x. omega (arith, x))
      ∙ get_or-set_other (set (set list 0 (length bytes)) 1 quota0) 2 1 0 0 (λ x. omega (arith, x))
      ∙ get_or-set_same (set list 0 (length bytes)) 1 quota0 0 (omega (arith, long, length-set list 0 (length bytes)))

  long3 : length (set (set (set list 0 (length bytes)) 1 quota0) 2 0) ≡ 70
  long3 = length-set (set (set list 0 (length bytes)) 1 quota0) 2 0 ∙ length-set (set list 0 (length bytes)) 1 quota0 ∙ length-set list 0 (length bytes) ∙ long

  long4 : length (set (set (set (set list 0 (length bytes)) 1 quota0) 2 0) 35 quota1) ≡ 70
  long4 = length-set (set (set (set list 0 (length bytes)) 1 quota0) 2 0) 35 quota1 ∙ long3

  at_quota1 : quota_of 1 list0 ≡ quota1
  at_quota1 =
      get_or-set_other list5 69 35 (length bytes - quota0 - quota1) 0 (λ x. omega (arith, x))
      ∙ get_or-set_other (set (set (set (set list 0 (length bytes)) 1 quota0) 2 0) 35 quota1) 36 35 0 0 (λ x. omega (arith, x))
      ∙ get_or-set_same (set (set (set list 0 (length bytes)) 1 quota0) 2 0) 35 quota1 0 (omega (arith, long3))

  long5 : length list5 ≡ 70
  long5 = length-set (set (set (set (set list 0 (length bytes)) 1 quota0) 2 0) 35 quota1) 36 0 ∙ long4

  at_left : get_or list0 69 0 ≡ length bytes - quota0 - quota1
  at_left = get_or-set_same list5 69 (length bytes - quota0 - quota1) 0 (omega (arith, long5))

  pub laid0 : LaidOut (record { list = list0; tiles = tiles; bytes = bytes })
  laid0 = record {
    lists = length-set list5 69 (length bytes - quota0 - quota1) ∙ long5;
    tiled = listed2_tiled list tiles e;
    small = omega (arith, at_room);
    whole = sym at_room;
    adding = omega (arith, at_room, at_quota0, at_quota1, at_left);
  }

  abbrev quota : ℕ → ℕ
  quota o = cond (eqb o 0) quota0 quota1

  at_quota : (o : ℕ) → o ≤ 1 → quota_of o list0 ≡ quota o
  at_quota o h = one_of_two o h (λ o. quota_of o list0 ≡ quota o) at_quota0 at_quota1

  -- both hold nothing: a reset changes nothing of it
  none_held : (o : ℕ) → o ≤ 1 → held_of (part list0 (1 + o * 34) 34) ≡ 0
  none_held o h =
      one_of_two o h (λ o. held_of (part list0 (1 + o * 34) 34) ≡ 0)
      (
      ap held_of (part_set_behind list5 1 34 68 (length bytes - quota0 - quota1) (omega arith) ∙ part_set_behind (set (set (set (set list 0 (length bytes)) 1 quota0) 2 0) 35 quota1) 1 34 35 0 (omega arith) ∙ part_set_behind (set (set (set list 0 (length bytes)) 1 quota0) 2 0) 1 34 34 quota1 (omega arith) ∙ part_set (set (set list 0 (length bytes)) 1 quota0) 1 34 1 0 (omega arith))
      ∙ get_or-set_same (part (set (set list 0 (length bytes)) 1 quota0) 1 34) 1 0 0
      (omega (arith, part_length (set (set list 0 (length bytes)) 1 quota0) 1 34 (omega (arith, long, length-set (set list 0 (length bytes)) 1 quota0, length-set list 0 (length bytes)))))
      )
      (
      ap held_of (part_set_behind list5 35 34 34 (length bytes - quota0 - quota1) (omega arith) ∙ part_set (set (set (set (set list 0 (length bytes)) 1 quota0) 2 0) 35 quota1) 35 34 1 0 (omega arith))
      ∙ get_or-set_same (part (set (set (set (set list 0 (length bytes)) 1 quota0) 2 0) 35 quota1) 35 34) 1 0 0
      (omega (arith, part_length (set (set (set (set list 0 (length bytes)) 1 quota0) 2 0) 35 quota1) 35 34 (omega (arith, long4))))
      )

  abbrev start : Arrays
  start = record { list = list0; tiles = tiles; bytes = bytes }

  module _ (o : ℕ) (h : o ≤ 1) where
    abbrev mine : Arrays
    mine = own_arrays o start

    mine_empty : emptied 32 mine.list mine.tiles mine.bytes (own_small start laid0 o h) (own_listed start laid0 o h) ≡ mine
    mine_empty =
        ap (λ (x : Answer × List ℕ). record { list = x.1; tiles = mine.tiles; bytes = mine.bytes }) (set_up_is 32 mine.list mine.tiles mine.bytes (own_small start laid0 o h) (own_listed start laid0 o h))
        ∙ ap (λ (l : List ℕ). record { list = l; tiles = mine.tiles; bytes = mine.bytes })
        (sym (own_shape start laid0 o h ∙ ap (λ (n : ℕ). length mine.bytes ∷ n ∷ drop 2 mine.list) (none_held o h)))

    mine_sound : SoundIn o start ≡ true
    mine_sound =
        subst (λ (s : Arrays). sound 32 s.list s.tiles s.bytes ≡ true) mine_empty
        (emptied_sound 32 mine.list mine.tiles mine.bytes (own_small start laid0 o h) (own_listed start laid0 o h))

  start_sound : SoundOut start ≡ true
  start_sound = sound_of start laid0 (mine_sound 0 (omega arith)) (mine_sound 1 (omega arith))

  -- both lists are sound after it
  pub set_up_sound : SoundOut emptied2 ≡ true
  set_up_sound = subst (λ (x : Arrays). SoundOut x ≡ true) (sym emptied_is) start_sound

  module _ (o : ℕ) (h : o ≤ 1) (es : List Event2) where
    -- what an owner sees is what a plain map of 32 entries and its quota gives, with its own calls and the resets alone
    pub own_map : own_seen o es (run two_step es emptied2) ≡ run (map_step 32 (quota o)) (own_events o es) []
    own_map =
        ap (λ (x : Arrays). own_seen o es (run two_step es x)) emptied_is
        ∙ follows o h es start laid0 (λ r. start_sound)
        ∙ ap (run (store_step 32) (own_events o es)) (sym (mine_empty o h))
        ∙ as_a_map 32 (mine o h).list (mine o h).tiles (mine o h).bytes (own_small start laid0 o h) (own_listed start laid0 o h) (own_events o es)
        ∙ ap (λ (q : ℕ). run (map_step 32 q) (own_events o es) []) (own_whole o h start laid0 ∙ at_quota o h)

    -- and so what any store of 32 entries over a buffer of its quota gives
    pub own_store : (list' tiles' bytes' : List ℕ) (small' : length bytes' ≤ 65536) (e' : listed 32 list' tiles' ≡ true) → length bytes' ≡ quota o
        → own_seen o es (run two_step es emptied2) ≡ run (store_step 32) (own_events o es) (emptied 32 list' tiles' bytes' small' e')
    own_store list' tiles' bytes' small' e' z =
        own_map ∙ ap (λ (q : ℕ). run (map_step 32 q) (own_events o es) []) (sym z) ∙ sym (as_a_map 32 list' tiles' bytes' small' e' (own_events o es))
