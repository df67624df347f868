-- Sequences of both owners' calls and of resets, and an owner's share of them. Definitions only.
use Rattle.std.specs.Prelude.{Bool, true, false, cond, List, [], ◌∷◌, ℕ, eqb}
use Rattle.store_definition.specs.Calls.{Call, Put, Length, Fetch, Drop, Event, Do, Reset, Seen, Arrays, left}
use Rattle.store_definition.specs.Owners.{own_list, own_tiles, own_bytes, reset, put_for, length_for, fetch_for, drop_for}

-- a call by an owner, or a reset, which belongs to neither
pub data Event2 : Type 0 where
  By : ℕ → Call → Event2
  ResetBoth : Event2

-- the three parts that are an owner's
abbrev pub own_arrays : ℕ → Arrays → Arrays
own_arrays owner w = record {
  list = own_list owner w.list w.tiles w.bytes;
  tiles = own_tiles owner w.list w.tiles w.bytes;
  bytes = own_bytes owner w.list w.tiles w.bytes;
}

abbrev pub call_for : ℕ → Call → Arrays → Seen × Arrays
call_for owner (Put t b) w = let o = put_for owner w.list w.tiles w.bytes t b in ((o.0, []), left o)
call_for owner (Length t) w = ((length_for owner w.list w.tiles w.bytes t, []), w)
call_for owner (Fetch t out) w = (fetch_for owner w.list w.tiles w.bytes t out, w)
call_for owner (Drop t) w = let o = drop_for owner w.list w.tiles w.bytes t in ((o.0, []), left o)

abbrev pub reset_both : Arrays → Seen × Arrays
reset_both w =
    let o = reset w.list w.tiles w.bytes in
    ((o.0, []), record { list = o.1; tiles = w.tiles; bytes = w.bytes })

abbrev pub two_step : Event2 → Arrays → Seen × Arrays
two_step (By owner c) w = call_for owner c w
two_step ResetBoth w = reset_both w

-- whether a reset is among them
unfoldable pub resets : List Event2 → Bool
resets [] = false
resets (By p c ∷ es) = resets es
resets (ResetBoth ∷ es) = true

-- an owner's own calls and the resets, and of what is seen that which is seen of those
unfoldable pub own_events : ℕ → List Event2 → List Event
own_events owner [] = []
own_events owner (By p c ∷ es) = cond (eqb p owner) (Do c ∷ own_events owner es) (own_events owner es)
own_events owner (ResetBoth ∷ es) = Reset ∷ own_events owner es

unfoldable pub own_seen : ℕ → List Event2 → List Seen → List Seen
own_seen owner [] l = []
own_seen owner (e ∷ es) [] = []
own_seen owner (By p c ∷ es) (x ∷ l) = cond (eqb p owner) (x ∷ own_seen owner es l) (own_seen owner es l)
own_seen owner (ResetBoth ∷ es) (x ∷ l) = x ∷ own_seen owner es l
