-- What is proved of the store of two owners. Laws only.
use Rattle.std.specs.Prelude.{cond, false, true, List, [], ◌∷◌, ◌≡◌, ◌+◌, ◌<◌, ◌≤◌, ℕ, eqb, get_or, length, replicate}
use Rattle.answers.specs.Answers.{done, refused}
use Rattle.answers.specs.declared.Answer.{Answer}
use Rattle.store_definition.proofs.Damaged.{SetUpNumber, call_refused, index_of, out_of, reset_damaged, reset_refused}
use Rattle.store_definition.proofs.OwnersApart.{own_map, own_store, owners_agree, owners_apart, part_kept, set_up_sound, step_sound}
use Rattle.store_definition.specs.OwnersEvents.{By, Event2, ResetBoth, call_for, own_arrays, own_events, own_seen, reset_both, resets, two_step}
use Rattle.store_definition.proofs.OwnersWorked.{worked}
use Rattle.store_definition.proofs.LaidLaws.{nobody}
use Rattle.store_definition.proofs.Nobody.{nobody_drop, nobody_fetch, nobody_length, nobody_put}
use Rattle.store_definition.specs.OwnersOneOutcome.{drop_for_one, fetch_for_one, length_for_one, put_for_one, reset_one, set_up2_one}
use Rattle.store_definition.specs.Owners.{barred, drop_for, fetch_for, laid, length_for, listed2, put_for, reset, set_up2, sound_both, sound_for}
use Rattle.store_definition.specs.Calls.{Arrays, Call, Drop, Fetch, Length, Put, map_step, run, store_step}
use Rattle.store_definition.proofs.Sequence.{emptied}
use Rattle.store_definition.specs.Store.{Outcome, listed}

-- Two outcomes of a set-up of both owners that satisfy its promise are one.
pub t2_set_up2_one : (list tiles bytes : List ℕ) → (quota0 quota1 : ℕ) (o p : Answer × List ℕ) → o ≡ set_up2 list tiles bytes quota0 quota1
    → p ≡ set_up2 list tiles bytes quota0 quota1 → o ≡ p
t2_set_up2_one = set_up2_one

-- Two outcomes of a reset that satisfy its promise are one.
pub t2_reset_one : (list tiles bytes : List ℕ) → (o p : Answer × List ℕ) → o ≡ reset list tiles bytes → p ≡ reset list tiles bytes → o ≡ p
t2_reset_one = reset_one

-- Two outcomes of an owner's put that satisfy its promise are one.
pub t2_put_for_one : (owner : ℕ) (list tiles bytes : List ℕ) → (t : ℕ) (block : List ℕ) (o p : Outcome) → o ≡ put_for owner list tiles bytes t block
    → p ≡ put_for owner list tiles bytes t block → o ≡ p
t2_put_for_one = put_for_one

-- Two outcomes of an owner's length that satisfy its promise are one.
pub t2_length_for_one : (owner : ℕ) (list tiles bytes : List ℕ) → (t : ℕ) (o p : Answer) → o ≡ length_for owner list tiles bytes t
    → p ≡ length_for owner list tiles bytes t → o ≡ p
t2_length_for_one = length_for_one

-- Two outcomes of an owner's fetch that satisfy its promise are one.
pub t2_fetch_for_one : (owner : ℕ) (list tiles bytes : List ℕ) → (t : ℕ) (out : List ℕ) (o p : Answer × List ℕ)
    → o ≡ fetch_for owner list tiles bytes t out → p ≡ fetch_for owner list tiles bytes t out → o ≡ p
t2_fetch_for_one = fetch_for_one

-- Two outcomes of an owner's drop that satisfy its promise are one.
pub t2_drop_for_one : (owner : ℕ) (list tiles bytes : List ℕ) → (t : ℕ) (o p : Outcome) → o ≡ drop_for owner list tiles bytes t
    → p ≡ drop_for owner list tiles bytes t → o ≡ p
t2_drop_for_one = drop_for_one

-- From any arrays that pass the part of 39 that a set-up leaves, what an owner sees is what its own calls and the resets give on a store of 32 entries over its own parts, whatever the other does and whatever either list holds; where there is a reset, both lists must be sound.
pub t28_owners_apart : (o : ℕ) → o ≤ 1 → (es : List Event2) (w : Arrays) → laid w.list w.tiles w.bytes ≡ true
    → (resets es ≡ true → sound_both w.list w.tiles w.bytes ≡ true) → own_seen o es (run two_step es w) ≡ run (store_step 32) (own_events o es) (own_arrays o w)
t28_owners_apart = owners_apart

-- Two sequences that agree on an owner's calls and the resets, from such arrays that agree on its parts, agree on what it sees.
pub t28_owners_agree : (o : ℕ) → o ≤ 1 → (es es' : List Event2) (w w' : Arrays) → laid w.list w.tiles w.bytes ≡ true
    → laid w'.list w'.tiles w'.bytes ≡ true → (resets es ≡ true → sound_both w.list w.tiles w.bytes ≡ true)
    → (resets es' ≡ true → sound_both w'.list w'.tiles w'.bytes ≡ true) → own_arrays o w ≡ own_arrays o w' → own_events o es ≡ own_events o es'
    → own_seen o es (run two_step es w) ≡ own_seen o es' (run two_step es' w')
t28_owners_agree = owners_agree

-- Both lists are sound after a set-up.
pub t28_set_up_sound : (list tiles bytes : List ℕ) (quota0 quota1 : ℕ) (small : length bytes ≤ 65536) (fit : quota0 + quota1 ≤ length bytes) (e : listed2 list tiles ≡ true)
    → sound_both (set_up2 list tiles bytes quota0 quota1).1 tiles bytes ≡ true
t28_set_up_sound = set_up_sound

-- They stay so after a call, whoever makes it, and after a reset.
pub t28_step_sound : (e : Event2) (w : Arrays) → sound_both w.list w.tiles w.bytes ≡ true
    → sound_both (two_step e w).1.list (two_step e w).1.tiles (two_step e w).1.bytes ≡ true
t28_step_sound = step_sound

-- From a set-up over at most 65,536 bytes and quotas that fit, what an owner sees is what a plain map of 32 entries with its quota as room gives.
pub t28_own_map : (list tiles bytes : List ℕ) (quota0 quota1 : ℕ) (small : length bytes ≤ 65536) (fit : quota0 + quota1 ≤ length bytes) (e : listed2 list tiles ≡ true) (o : ℕ) (h : o ≤ 1) (es : List Event2)
    → own_seen o es (run two_step es (record { list = (set_up2 list tiles bytes quota0 quota1).1; tiles = tiles; bytes = bytes })) ≡ run (map_step 32 (cond (eqb o 0) quota0 quota1)) (own_events o es) []
t28_own_map = own_map

-- And what any other store of 32 entries over as many bytes gives, once set up.
pub t28_own_store : (list tiles bytes : List ℕ) (quota0 quota1 : ℕ) (small : length bytes ≤ 65536) (fit : quota0 + quota1 ≤ length bytes) (e : listed2 list tiles ≡ true) (o : ℕ) (h : o ≤ 1) (es : List Event2)
    → (list' tiles' bytes' : List ℕ) (small' : length bytes' ≤ 65536) (e' : listed 32 list' tiles' ≡ true)
    → length bytes' ≡ (cond (eqb o 0) quota0 quota1)
    → own_seen o es (run two_step es (record { list = (set_up2 list tiles bytes quota0 quota1).1; tiles = tiles; bytes = bytes })) ≡ run (store_step 32) (own_events o es) (emptied 32 list' tiles' bytes' small' e')
t28_own_store = own_store

-- No call of the other, nor of a stranger, changes anything of an owner's part of list, tiles and buffer, whatever the arrays hold.
pub t28_part_kept : (o p : ℕ) → o ≤ 1 → (p ≡ o → ⊥) → (c : Call) (w : Arrays) → own_arrays o (call_for p c w).1 ≡ own_arrays o w
t28_part_kept = part_kept

-- A put by an owner that is neither 0 nor 1 is refused with 34, whatever the arrays hold, and list, tiles and buffer are as they were.
pub t28_nobody_put : (owner : ℕ) (stranger : 1 < owner) (list tiles bytes : List ℕ) → (t : ℕ) (block : List ℕ) (o : Outcome)
    → o ≡ put_for owner list tiles bytes t block → o ≡ (refused 34 0, list, tiles, bytes)
t28_nobody_put = nobody_put

-- So is a length; it has no array to change.
pub t28_nobody_length : (owner : ℕ) (stranger : 1 < owner) (list tiles bytes : List ℕ) → (t : ℕ) (o : Answer) → o ≡ length_for owner list tiles bytes t
    → o ≡ refused 34 0
t28_nobody_length = nobody_length

-- So is a fetch, and the destination is as it was.
pub t28_nobody_fetch : (owner : ℕ) (stranger : 1 < owner) (list tiles bytes : List ℕ) → (t : ℕ) (out : List ℕ) (o : Answer × List ℕ)
    → o ≡ fetch_for owner list tiles bytes t out → o ≡ (refused 34 0, out)
t28_nobody_fetch = nobody_fetch

-- So is a drop, and list, tiles and buffer are as they were.
pub t28_nobody_drop : (owner : ℕ) (stranger : 1 < owner) (list tiles bytes : List ℕ) → (t : ℕ) (o : Outcome) → o ≡ drop_for owner list tiles bytes t
    → o ≡ (refused 34 0, list, tiles, bytes)
t28_nobody_drop = nobody_drop

-- The check behind those four: an owner that is neither 0 nor 1 is barred with 34, whatever the arrays hold.
pub t28_nobody : (list tiles bytes : List ℕ) → (owner : ℕ) → 1 < owner → barred owner list tiles bytes ≡ 34
t28_nobody = nobody

-- Thirteen calls of both owners, of a stranger and a reset, computed: quotas of 3 and 2 bytes in a buffer of 6.
pub t28_worked : run two_step
    (By 0 (Put 7 (1 ∷ 2 ∷ [])) ∷ By 1 (Put 7 (3 ∷ 4 ∷ 5 ∷ [])) ∷ By 1 (Put 7 (3 ∷ 4 ∷ [])) ∷ By 2 (Put 7 []) ∷ By 0 (Put 7 []) ∷ By 1 (Length 7)
    ∷ By 0 (Drop 7) ∷ By 1 (Fetch 7 (0 ∷ 0 ∷ [])) ∷ By 0 (Length 7) ∷ By 0 (Put 8 (6 ∷ 6 ∷ 6 ∷ [])) ∷ ResetBoth ∷ By 1 (Drop 7) ∷ By 0 (Length 8) ∷ [])
    (record {
      list = (set_up2 (replicate 70 9) (replicate 64 5) (0 ∷ 0 ∷ 0 ∷ 0 ∷ 0 ∷ 0 ∷ []) 3 2).1;
      tiles = replicate 64 5;
      bytes = 0 ∷ 0 ∷ 0 ∷ 0 ∷ 0 ∷ 0 ∷ [];
    })
    ≡ (done 0, []) ∷ (refused 30 0, []) ∷ (done 0, []) ∷ (refused 34 0, []) ∷ (refused 31 0, []) ∷ (done 2, [])
    ∷ (done 0, []) ∷ (done 0, 3 ∷ 4 ∷ []) ∷ (refused 32 0, []) ∷ (done 0, []) ∷ (done 0, []) ∷ (refused 32 0, []) ∷ (refused 32 0, []) ∷ []
t28_worked = worked

-- Of the set-up's four numbers (the room, the two quotas, what they leave over) one is another one than in a list that is laid, and the others are the same, over a buffer of the same length.
-- Then each call of an owner answers 39, whatever else is in list, tiles and buffer, and everything lent is as it was.
pub t44_call_refused : (w v : Arrays) (e : laid w.list w.tiles w.bytes ≡ true) (b : length v.bytes ≡ length w.bytes) (k : SetUpNumber)
    (ne : get_or v.list (index_of k) 0 ≡ get_or w.list (index_of k) 0 → ⊥)
    (others : (j : SetUpNumber) → (index_of j ≡ index_of k → ⊥) → get_or v.list (index_of j) 0 ≡ get_or w.list (index_of j) 0)
    (o : ℕ) → o ≤ 1 → (c : Call) → call_for o c v ≡ ((refused 39 0, out_of c), v)
t44_call_refused = call_refused

-- And so does a reset.
pub t44_reset_refused : (w v : Arrays) (e : laid w.list w.tiles w.bytes ≡ true) (b : length v.bytes ≡ length w.bytes) (k : SetUpNumber)
    (ne : get_or v.list (index_of k) 0 ≡ get_or w.list (index_of k) 0 → ⊥)
    (others : (j : SetUpNumber) → (index_of j ≡ index_of k → ⊥) → get_or v.list (index_of j) 0 ≡ get_or w.list (index_of j) 0)
    → reset_both v ≡ ((refused 39 0, []), v)
t44_reset_refused = reset_refused

-- A reset answers 39 too where either owner's list is one that its own calls refuse.
pub t44_reset_damaged : (o : ℕ) → o ≤ 1 → (v : Arrays) → sound_for o v.list v.tiles v.bytes ≡ false → reset_both v ≡ ((refused 39 0, []), v)
t44_reset_damaged = reset_damaged
