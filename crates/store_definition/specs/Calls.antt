-- Sequences of calls: on a store, and on a plain map from tiles to bytes, which is what a store is held to. Definitions only.
use Rattle.std.specs.Prelude.{cond, not, List, [], ◌∷◌, ◌++◌, ℕ, ◌+◌, ltb, leb, eqb, length, take, drop}
use Rattle.std.proofs.Math.Option.{Option, none, some}
use Rattle.answers.specs.declared.Answer.{Answer}
use Rattle.answers.specs.Answers.{done, refused}
use Rattle.store_definition.specs.Store.{sum, held_of, set_up, Outcome, put_of, length_held, fetch_of, drop_of}

-- a call: Put has the block, Fetch the destination as it is before the call
pub data Call : Type 0 where
  Put : ℕ → List ℕ → Call
  Length : ℕ → Call
  Fetch : ℕ → List ℕ → Call
  Drop : ℕ → Call

-- what happens to a store: a call, or a set-up anew
pub data Event : Type 0 where
  Do : Call → Event
  Reset : Event

-- what a caller sees: the answer, and the destination after the call, which is empty for a call with none
abbrev pub Seen : Type 0
Seen = Answer × List ℕ

-- the events one after the other, and what is seen of each
module _ {C S : Type 0} (step : C → S → Seen × S) where
  unfoldable pub run : List C → S → List Seen
  run [] s = []
  run (c ∷ cs) s = (step c s).0 ∷ run cs (step c s).1

-- ---- a plain map, with the two limits

abbrev pub Map : Type 0
Map = List (ℕ × List ℕ)

unfoldable pub lookup : ℕ → Map → Option (List ℕ)
lookup t [] = none
lookup t (e ∷ m) = cond (eqb e.0 t) (some e.1) (lookup t m)

unfoldable pub without : ℕ → Map → Map
without t [] = []
without t (e ∷ m) = cond (eqb e.0 t) m (e ∷ without t m)

-- the lengths of what it has
unfoldable pub sizes : Map → List ℕ
sizes [] = []
sizes (e ∷ m) = length e.1 ∷ sizes m

-- refused, and nothing changed
abbrev pub no : ℕ → List ℕ → Map → Seen × Map
no a out m = ((refused a 0, out), m)

module _ (entries room : ℕ) where
  abbrev pub map_put : ℕ → List ℕ → Map → Option (List ℕ) → Seen × Map
  map_put t b m (some x) = no 31 [] m
  map_put t b m none =
      cond (leb entries (length m)) (no 33 [] m)
      (cond (ltb room (sum (sizes m) + length b)) (no 30 [] m)
      ((done 0, []), m ++ ((t, b) ∷ [])))

  abbrev pub map_length : Map → Option (List ℕ) → Seen × Map
  map_length m (some x) = ((done (length x), []), m)
  map_length m none = no 32 [] m

  abbrev pub map_fetch : List ℕ → Map → Option (List ℕ) → Seen × Map
  map_fetch out m (some x) = cond (not (eqb (length out) (length x))) (no 6 out m) ((done 0, x), m)
  map_fetch out m none = no 32 out m

  abbrev pub map_drop : ℕ → Map → Option (List ℕ) → Seen × Map
  map_drop t m (some x) = ((done 0, []), without t m)
  map_drop t m none = no 32 [] m

  abbrev pub map_call : Call → Map → Seen × Map
  map_call (Put t b) m = map_put t b m (lookup t m)
  map_call (Length t) m = map_length m (lookup t m)
  map_call (Fetch t out) m = map_fetch out m (lookup t m)
  map_call (Drop t) m = map_drop t m (lookup t m)

  abbrev pub map_step : Event → Map → Seen × Map
  map_step (Do c) m = map_call c m
  map_step Reset m = ((done 0, []), [])

-- ---- a store

pub record Arrays : Type 0 where
  pub list : List ℕ
  pub tiles : List ℕ
  pub bytes : List ℕ

abbrev pub left : Outcome → Arrays
left o = record { list = o.1; tiles = o.2; bytes = o.3 }

module _ (entries : ℕ) where
  abbrev pub store_call : Call → Arrays → Seen × Arrays
  store_call (Put t b) s = let o = put_of entries s.list s.tiles s.bytes t b in ((o.0, []), left o)
  store_call (Length t) s = ((length_held entries s.list s.tiles s.bytes t, []), s)
  store_call (Fetch t out) s = (fetch_of entries s.list s.tiles s.bytes t out, s)
  store_call (Drop t) s = let o = drop_of entries s.list s.tiles s.bytes t in ((o.0, []), left o)

  abbrev pub store_reset : Arrays → Seen × Arrays
  store_reset s =
      let o = set_up entries s.list s.tiles s.bytes in
      ((o.0, []), record { list = o.1; tiles = s.tiles; bytes = s.bytes })

  abbrev pub store_step : Event → Arrays → Seen × Arrays
  store_step (Do c) s = store_call c s
  store_step Reset s = store_reset s

-- the map that a store shows: its blocks one behind the other
unfoldable pub shown : List ℕ → List ℕ → List ℕ → Map
shown [] ns b = []
shown (t ∷ ts) [] b = []
shown (t ∷ ts) (n ∷ ns) b = (t, take n b) ∷ shown ts ns (drop n b)

unfoldable pub map_of : Arrays → Map
map_of s = shown (take (held_of s.list) s.tiles) (take (held_of s.list) (drop 2 s.list)) s.bytes
