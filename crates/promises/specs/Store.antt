-- What is proved of the store of one owner. Laws only.
use Rattle.std.specs.Prelude.{true, List, [], ◌∷◌, ◌≡◌, ◌≤◌, ℕ, length, ⊤, Result}
use Rattle.answers.specs.Answers.{done, refused}
use Rattle.answers.specs.declared.Answer.{Answer}
use Rattle.store.proofs.RefusalLaws.{counted_one, verdict_one}
use Rattle.store.specs.Refusals.{counted, verdict}
use Rattle.store.specs.declared.refusal.StoreRefusal.{StoreRefusal}
use Rattle.store_definition.proofs.Worked.{looked, worked}
use Rattle.store_definition.specs.Calls.{Arrays, Call, Do, Drop, Event, Fetch, Length, Put, Reset, map_call, map_of, map_step, run, store_call, store_step}
use Rattle.store_definition.specs.OneOutcome.{drop_one, fetch_one, length_one, put_one, set_up_one}
use Rattle.store_definition.proofs.Sequence.{as_a_map, as_it_shows, commutes, emptied}
use Rattle.store_definition.specs.Store.{Outcome, drop_of, fetch_of, length_held, listed, put_of, room_of, set_up, sound}

-- Two outcomes of a set-up that satisfy its promise are one.
pub t2_set_up_one : (entries : ℕ) (list tiles bytes : List ℕ) → (o p : Answer × List ℕ) → o ≡ set_up entries list tiles bytes
    → p ≡ set_up entries list tiles bytes → o ≡ p
t2_set_up_one = set_up_one

-- Two outcomes of a put that satisfy its promise are one.
pub t2_put_one : (entries : ℕ) (list tiles bytes : List ℕ) → (t : ℕ) (block : List ℕ) (o p : Outcome) → o ≡ put_of entries list tiles bytes t block
    → p ≡ put_of entries list tiles bytes t block → o ≡ p
t2_put_one = put_one

-- Two outcomes of a length that satisfy its promise are one.
pub t2_length_one : (entries : ℕ) (list tiles bytes : List ℕ) → (t : ℕ) (o p : Answer) → o ≡ length_held entries list tiles bytes t
    → p ≡ length_held entries list tiles bytes t → o ≡ p
t2_length_one = length_one

-- Two outcomes of a fetch that satisfy its promise are one.
pub t2_fetch_one : (entries : ℕ) (list tiles bytes : List ℕ) → (t : ℕ) (out : List ℕ) (o p : Answer × List ℕ)
    → o ≡ fetch_of entries list tiles bytes t out → p ≡ fetch_of entries list tiles bytes t out → o ≡ p
t2_fetch_one = fetch_one

-- Two outcomes of a drop that satisfy its promise are one.
pub t2_drop_one : (entries : ℕ) (list tiles bytes : List ℕ) → (t : ℕ) (o p : Outcome) → o ≡ drop_of entries list tiles bytes t
    → p ≡ drop_of entries list tiles bytes t → o ≡ p
t2_drop_one = drop_one

-- Two results of a set-up, a put, a fetch or a drop that come to one answer are one.
pub t2_verdict_one : (x y : Result ⊤ StoreRefusal) → verdict x ≡ verdict y → x ≡ y
t2_verdict_one = verdict_one

-- Two results of a length that come to one answer are one.
pub t2_counted_one : (x y : Result ℕ StoreRefusal) → counted x ≡ counted y → x ≡ y
t2_counted_one = counted_one

-- From a set-up over at most 65,536 bytes, whatever the arrays held, any list of calls and set-ups gives the answers and the bytes of a plain map from tile to bytes.
pub t27_as_a_map : (entries : ℕ) (list tiles bytes : List ℕ) (small : length bytes ≤ 65536) (e : listed entries list tiles ≡ true) (es : List Event)
    → run (store_step entries) es (emptied entries list tiles bytes small e) ≡ run (map_step entries (length bytes)) es []
t27_as_a_map = as_a_map

-- From any store that 39 lets pass any list of calls and set-ups gives what the map that it shows gives.
pub t27_as_it_shows : (entries : ℕ) (s : Arrays) (e : sound entries s.list s.tiles s.bytes ≡ true) → (es : List Event)
    → run (store_step entries) es s ≡ run (map_step entries (room_of s.list)) es (map_of s)
t27_as_it_shows = as_it_shows

-- On such a store each call's answer is the map's, and the arrays afterwards show the map's outcome.
pub t27_commutes : (entries : ℕ) (s : Arrays) (e : sound entries s.list s.tiles s.bytes ≡ true) → (c : Call)
    → ((store_call entries c s).0 ≡ (map_call entries (room_of s.list) c (map_of s)).0) × (map_of (store_call entries c s).1 ≡ (map_call entries (room_of s.list) c (map_of s)).1)
t27_commutes = commutes

-- Sixteen calls and set-ups on a store of 3 entries and 10 bytes, computed.
pub t27_worked : run (store_step 3)
    (Reset ∷ Do (Put 7 (97 ∷ 98 ∷ 99 ∷ 100 ∷ [])) ∷ Do (Put 7 []) ∷ Do (Put 8 (101 ∷ 102 ∷ 103 ∷ [])) ∷ Do (Put 9 (1 ∷ 2 ∷ 3 ∷ 4 ∷ [])) ∷ Do (Put 9 (1 ∷ 2 ∷ 3 ∷ []))
    ∷ Do (Put 10 []) ∷ Do (Drop 8) ∷ Do (Length 8) ∷ Do (Length 9) ∷ Do (Fetch 9 (0 ∷ 0 ∷ 0 ∷ [])) ∷ Do (Fetch 7 (0 ∷ [])) ∷ Do (Put 10 []) ∷ Do (Length 10) ∷ Reset ∷ Do (Drop 7) ∷ [])
    (record { list = 9 ∷ 9 ∷ 9 ∷ 9 ∷ 9 ∷ []; tiles = 5 ∷ 5 ∷ 5 ∷ []; bytes = 0 ∷ 0 ∷ 0 ∷ 0 ∷ 0 ∷ 0 ∷ 0 ∷ 0 ∷ 0 ∷ 0 ∷ [] })
    ≡ (done 0, []) ∷ (done 0, []) ∷ (refused 31 0, []) ∷ (done 0, []) ∷ (refused 30 0, []) ∷ (done 0, [])
    ∷ (refused 33 0, []) ∷ (done 0, []) ∷ (refused 32 0, []) ∷ (done 3, []) ∷ (done 0, 1 ∷ 2 ∷ 3 ∷ []) ∷ (refused 6 0, 0 ∷ []) ∷ (done 0, []) ∷ (done 0, []) ∷ (done 0, [])
    ∷ (refused 32 0, []) ∷ []
t27_worked = worked

-- What 39 lets pass and refuses, computed: a store that is sound; one that holds too many, lengths that leave the buffer, a tile twice, a buffer of another length, a list one short.
pub t27_looked : (length_held 3 (3 ∷ 3 ∷ 1 ∷ 2 ∷ 0 ∷ []) (1 ∷ 2 ∷ 3 ∷ []) (0 ∷ 0 ∷ 0 ∷ []) 2 ≡ done 2)
    × (length_held 3 (3 ∷ 4 ∷ 1 ∷ 2 ∷ 0 ∷ []) (1 ∷ 2 ∷ 3 ∷ []) (0 ∷ 0 ∷ 0 ∷ []) 2 ≡ refused 39 0)
    × (length_held 3 (3 ∷ 3 ∷ 1 ∷ 2 ∷ 1 ∷ []) (1 ∷ 2 ∷ 3 ∷ []) (0 ∷ 0 ∷ 0 ∷ []) 2 ≡ refused 39 0)
    × (length_held 3 (3 ∷ 3 ∷ 1 ∷ 2 ∷ 0 ∷ []) (1 ∷ 2 ∷ 1 ∷ []) (0 ∷ 0 ∷ 0 ∷ []) 2 ≡ refused 39 0)
    × (length_held 3 (4 ∷ 3 ∷ 1 ∷ 2 ∷ 0 ∷ []) (1 ∷ 2 ∷ 3 ∷ []) (0 ∷ 0 ∷ 0 ∷ []) 2 ≡ refused 39 0)
    × (length_held 3 (3 ∷ 3 ∷ 1 ∷ 2 ∷ []) (1 ∷ 2 ∷ 3 ∷ []) (0 ∷ 0 ∷ 0 ∷ []) 2 ≡ refused 39 0)
t27_looked = looked
