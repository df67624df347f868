-- The sequence theorem: every sequence of calls from an empty store answers, and fetches, as a plain map from tiles to bytes does. Laws, and the arrays after a set-up (`emptied`).
use Rattle.std.specs.Prelude.{◌≡◌, Bool, ℕ, suc, ◌+◌, ◌-◌, ◌≤◌, ◌<◌, ltb, leb, get_or}
use Rattle.std.proofs.Math.Path.{refl, sym, ap, subst}
use Rattle.std.proofs.Common.{◌∙◌, add-one, length-set, take-suc-set, get_or-take, take-add, take_at, drop_at, take-take}
use Rattle.std.proofs.Math.Logic.{⊎_elim}
use Rattle.std.proofs.Math.Bool.{true, false}
use mathlib.Core.List.{List, [], ◌∷◌, ◌++◌, append-nil}
use native.Mathlib.Omega.{arith}
use borrow.Author.Tests.{leb-false, ltb-false, eqb-true, eq-eqb, le-ltb, lt-ltb}
use Rattle.std.proofs.Math.Dec.{eqb}
use Rattle.std.proofs.Math.ListN.{length, take, drop, set, length-append, length-drop}
use Rattle.std.proofs.Math.Seq.{length-take-le, take-length, paste}
use Rattle.std.proofs.lemmas.List.Edits.{take-paste, length-paste}
use Rattle.std.proofs.lemmas.List.{drop-take, get_or_at}
use Rattle.answers.specs.declared.Answer.{Answer}
use Rattle.answers.specs.Answers.{done, refused}
use Rattle.store_definition.specs.Store.{place, sum, distinct, listed, sound, closed, held_of, room_of, set_up, put_of, length_held, fetch_of, drop_of}
use Rattle.store_definition.specs.SoundLaws.{Facts, facts, sounds, listed_lists, listed_tiled}
use Rattle.store_definition.specs.StartLaws.{sum_append}
use Rattle.store_definition.specs.Calls.{Call, Put, Length, Fetch, Drop, Event, Do, Reset, Seen, run, Map, sizes, map_call, map_step, Arrays, store_call, store_reset, store_step, shown, map_of}
use Rattle.store_definition.specs.ListLaws.{closed_cut, closed_length, part_of, front_of, Fresh, fresh_of, distinct_of, distinct_is, distinct_append, distinct_cut}
use Rattle.store_definition.specs.MapLaws.{keys, flat, keys_append, sizes_append, flat_append, keys_length, sizes_length, flat_length, Split, Missing, split}

-- ---- the list: room, number held, and the lengths

two_more : (k : ℕ) → 2 + k ≡ suc (suc k)
two_more k = omega arith

-- an entry more, and one less
listed_more : (room h k n x : ℕ) (lens : List ℕ) → set (set (room ∷ h ∷ lens) (2 + k) n) 1 x ≡ room ∷ x ∷ set lens k n
listed_more room h k n x lens = rw (two_more k)

listed_less : (room h k n x : ℕ) (lens : List ℕ) → set (closed (room ∷ h ∷ lens) (2 + k) 1 (2 + n)) 1 x ≡ room ∷ x ∷ closed lens k 1 n
listed_less room h k n x lens =
    let j : 2 + n - (2 + k + 1) ≡ n - (k + 1) = omega arith in
    let a : 2 + k + 1 ≡ suc (suc (k + 1)) = omega arith in
    let b : 2 + k + (n - (k + 1)) ≡ suc (suc (k + (n - (k + 1)))) = omega arith in
    rw (j, a, b, two_more k)

-- any list of two numbers and more
pub list_is : (list : List ℕ) (n : ℕ) → length list ≡ 2 + n → list ≡ room_of list ∷ held_of list ∷ drop 2 list
list_is [] n e = absurd (omega arith)
list_is (x ∷ []) n e = absurd (omega arith)
list_is (x ∷ y ∷ l) n e = refl

-- ---- a store that holds a map

record Good (entries room held : ℕ) (tiles lens bytes : List ℕ) : Type 0 where
  small : room ≤ 65536
  whole : length bytes ≡ room
  tiled : length tiles ≡ entries
  lensed : length lens ≡ entries
  few : held ≤ entries
  fitting : sum (take held lens) ≤ room
  unlike : distinct (take held tiles) ≡ true

record Holds (entries room : ℕ) (tiles lens bytes : List ℕ) (m : Map) : Type 0 where
  good : Good entries room (length m) tiles lens bytes
  tiled : take (length m) tiles ≡ keys m
  sized : take (length m) lens ≡ sizes m
  filled : take (sum (sizes m)) bytes ≡ flat m

-- the arrays hold a map
record Within (entries room : ℕ) (s : Arrays) (m : Map) : Type 0 where
  lens : List ℕ
  lists : s.list ≡ room ∷ length m ∷ lens
  holds : Holds entries room s.tiles lens s.bytes m

module _ (entries room : ℕ) where
  -- a step of the store and one of the map: the same is seen, and the store holds the map after it
  Matches : Seen × Arrays → Seen × Map → Type 0
  Matches o p = (o.0 ≡ p.0) × Within entries room o.1 p.1

  module _ (tiles lens bytes : List ℕ) (m : Map) (h : Holds entries room tiles lens bytes m) where
    abbrev list : List ℕ
    list = room ∷ length m ∷ lens

    is_sound : sound entries list tiles bytes ≡ true
    is_sound =
        sounds entries list tiles bytes
        (record {
          lists = omega (arith, h.good.lensed);
          tiled = h.good.tiled;
          small = h.good.small;
          whole = h.good.whole;
          few = h.good.few;
          fitting = h.good.fitting;
          unlike = h.good.unlike;
        })

    start_all : sum (take (length m) lens) ≡ sum (sizes m)
    start_all = ap sum h.sized

    -- ---- a tile that isn't held

    module _ (t : ℕ) (s : Missing t m) where
      is_missing : ltb (place t (take (length m) tiles)) (length m) ≡ false
      is_missing = le-ltb (place t (take (length m) tiles)) (length m) (omega (arith, s.at, ap (place t) h.tiled))

      fresh : Fresh t (keys m)
      fresh = fresh_of t (keys m) (omega (arith, s.at, keys_length m))

      -- ---- a new block

      module _ (b : List ℕ) (few : length m < entries) (fit : sum (sizes m) + length b ≤ room) where
        new : Map
        new = m ++ ((t, b) ∷ [])

        new_length : length new ≡ length m + 1
        unfolding new
        new_length = length-append m ((t, b) ∷ [])

        new_keys : keys new ≡ keys m ++ (t ∷ [])
        unfolding new keys
        new_keys = keys_append m ((t, b) ∷ [])

        new_sizes : sizes new ≡ sizes m ++ (length b ∷ [])
        unfolding new sizes
        new_sizes = sizes_append m ((t, b) ∷ [])

        new_flat : flat new ≡ flat m ++ b
        unfolding new flat
        new_flat = flat_append m ((t, b) ∷ []) ∙ ap (λ (l : List ℕ). flat m ++ l) (append-nil b)

        new_sum : sum (sizes new) ≡ sum (sizes m) + length b
        unfolding sum
        new_sum = ap sum new_sizes ∙ sum_append (sizes m) (length b ∷ []) ∙ omega arith

        new_tiled : take (length new) (set tiles (length m) t) ≡ keys new
        new_tiled =
            ap (λ (n : ℕ). take n (set tiles (length m) t)) (new_length ∙ add-one (length m)) ∙ take-suc-set tiles (length m) t (omega (arith, h.good.tiled))
            ∙ ap (λ (l : List ℕ). l ++ (t ∷ [])) h.tiled ∙ sym new_keys

        new_sized : take (length new) (set lens (length m) (length b)) ≡ sizes new
        new_sized =
            ap (λ (n : ℕ). take n (set lens (length m) (length b))) (new_length ∙ add-one (length m)) ∙ take-suc-set lens (length m) (length b) (omega (arith, h.good.lensed))
            ∙ ap (λ (l : List ℕ). l ++ (length b ∷ [])) h.sized ∙ sym new_sizes

        new_filled : take (sum (sizes new)) (paste bytes (sum (sizes m)) b (length b)) ≡ flat new
        new_filled =
            ap (λ (n : ℕ). take n (paste bytes (sum (sizes m)) b (length b))) new_sum
            ∙ take-paste bytes (sum (sizes m)) b (length b) (omega (arith, h.good.whole)) (omega arith)
            ∙ ap (λ (l : List ℕ). l ++ take (length b) b) h.filled ∙ ap (λ (l : List ℕ). flat m ++ l) (take-length b) ∙ sym new_flat

        new_holds : Holds entries room (set tiles (length m) t) (set lens (length m) (length b)) (paste bytes (sum (sizes m)) b (length b)) new
        new_holds = record {
          good = record {
            small = h.good.small;
            whole = length-paste bytes (sum (sizes m)) b (length b) (omega (arith, h.good.whole)) (omega arith) ∙ h.good.whole;
            tiled = length-set tiles (length m) t ∙ h.good.tiled;
            lensed = length-set lens (length m) (length b) ∙ h.good.lensed;
            few = omega (arith, new_length);
            fitting = omega (arith, ap sum new_sized, new_sum);
            unlike = ap distinct (new_tiled ∙ new_keys) ∙ distinct_is (keys m ++ (t ∷ [])) (distinct_append t (keys m) (distinct_of (keys m) (ap distinct (sym h.tiled) ∙ h.good.unlike)) fresh);
          };
          tiled = new_tiled;
          sized = new_sized;
          filled = new_filled;
        }

    -- ---- a tile that is held

    module _ (t : ℕ) (s : Split t m) where
      whole_length : length m ≡ length s.front + suc (length s.back)
      whole_length = ap length s.whole ∙ length-append s.front ((t, s.block) ∷ s.back)

      at_is : place t (take (length m) tiles) ≡ length s.front
      at_is = ap (place t) h.tiled ∙ s.at

      is_found : ltb (place t (take (length m) tiles)) (length m) ≡ true
      is_found = lt-ltb (place t (take (length m) tiles)) (length m) (omega (arith, at_is, whole_length))

      tiles_cut : take (length m) tiles ≡ keys s.front ++ ((t ∷ []) ++ keys s.back)
      unfolding keys
      tiles_cut = h.tiled ∙ ap keys s.whole ∙ keys_append s.front ((t, s.block) ∷ s.back)

      lens_cut : take (length m) lens ≡ sizes s.front ++ ((length s.block ∷ []) ++ sizes s.back)
      unfolding sizes
      lens_cut = h.sized ∙ ap sizes s.whole ∙ sizes_append s.front ((t, s.block) ∷ s.back)

      bytes_cut : take (sum (sizes m)) bytes ≡ flat s.front ++ (s.block ++ flat s.back)
      unfolding flat
      bytes_cut = h.filled ∙ ap flat s.whole ∙ flat_append s.front ((t, s.block) ∷ s.back)

      lens_long : length m ≤ length lens
      lens_long = omega (arith, h.good.lensed, h.good.few)

      tiles_long : length m ≤ length tiles
      tiles_long = omega (arith, h.good.tiled, h.good.few)

      bytes_long : sum (sizes m) ≤ length bytes
      bytes_long = omega (arith, h.good.whole, h.good.fitting, start_all)

      start_is : sum (take (length s.front) lens) ≡ sum (sizes s.front)
      start_is = ap sum (front_of lens (sizes s.front) (length s.block ∷ []) (sizes s.back) (length m) lens_cut lens_long (length s.front) (sizes_length s.front))

      length_is : get_or lens (length s.front) 0 ≡ length s.block
      length_is =
          sym (get_or-take (length m) lens (length s.front) 0 (omega (arith, whole_length))) ∙ ap (λ (l : List ℕ). get_or l (length s.front) 0) lens_cut
          ∙ get_or_at (sizes s.front) (length s.block) (sizes s.back) 0 (length s.front) (sizes_length s.front)

      block_is : take (length s.block) (drop (sum (sizes s.front)) bytes) ≡ s.block
      block_is = part_of bytes (flat s.front) s.block (flat s.back) (sum (sizes m)) bytes_cut bytes_long (sum (sizes s.front)) (length s.block) (flat_length s.front) refl

      -- ---- what is left when it is dropped

      rest : Map
      rest = s.front ++ s.back

      rest_length : length rest ≡ length m - 1
      unfolding rest
      rest_length = length-append s.front s.back ∙ omega (arith, whole_length)

      rest_keys : keys rest ≡ keys s.front ++ keys s.back
      unfolding rest
      rest_keys = keys_append s.front s.back

      rest_sizes : sizes rest ≡ sizes s.front ++ sizes s.back
      unfolding rest
      rest_sizes = sizes_append s.front s.back

      rest_flat : flat rest ≡ flat s.front ++ flat s.back
      unfolding rest
      rest_flat = flat_append s.front s.back

      sum_cut : sum (sizes m) ≡ sum (sizes s.front) + (length s.block + sum (sizes s.back))
      unfolding sum
      sum_cut = ap sum (sym h.sized ∙ lens_cut) ∙ sum_append (sizes s.front) (length s.block ∷ sizes s.back)

      rest_sum : sum (sizes rest) ≡ sum (sizes m) - length s.block
      rest_sum = ap sum rest_sizes ∙ sum_append (sizes s.front) (sizes s.back) ∙ omega (arith, sum_cut)

      k : ℕ
      k = length s.front

      rest_tiled : take (length rest) (closed tiles k 1 (length m)) ≡ keys rest
      unfolding k
      rest_tiled =
          ap (λ (n : ℕ). take n (closed tiles k 1 (length m))) rest_length
          ∙ closed_cut tiles (keys s.front) (t ∷ []) (keys s.back) (length m) tiles_cut tiles_long k 1 (keys_length s.front) refl ∙ sym rest_keys

      rest_sized : take (length rest) (closed lens k 1 (length m)) ≡ sizes rest
      unfolding k
      rest_sized =
          ap (λ (n : ℕ). take n (closed lens k 1 (length m))) rest_length
          ∙ closed_cut lens (sizes s.front) (length s.block ∷ []) (sizes s.back) (length m) lens_cut lens_long k 1 (sizes_length s.front) refl ∙ sym rest_sizes

      closed_bytes : List ℕ
      closed_bytes = closed bytes (sum (sizes s.front)) (length s.block) (sum (sizes m))

      rest_filled : take (sum (sizes rest)) closed_bytes ≡ flat rest
      unfolding closed_bytes
      rest_filled =
          ap (λ (n : ℕ). take n closed_bytes) rest_sum
          ∙ closed_cut bytes (flat s.front) s.block (flat s.back) (sum (sizes m)) bytes_cut bytes_long (sum (sizes s.front)) (length s.block) (flat_length s.front) refl
          ∙ sym rest_flat

      rest_holds : Holds entries room (closed tiles k 1 (length m)) (closed lens k 1 (length m)) closed_bytes rest
      unfolding k closed_bytes
      rest_holds = record {
        good = record {
          small = h.good.small;
          whole = closed_length bytes (flat s.front) s.block (flat s.back) (sum (sizes m)) bytes_cut bytes_long (sum (sizes s.front)) (length s.block) (flat_length s.front) refl ∙ h.good.whole;
          tiled = closed_length tiles (keys s.front) (t ∷ []) (keys s.back) (length m) tiles_cut tiles_long k 1 (keys_length s.front) refl ∙ h.good.tiled;
          lensed = closed_length lens (sizes s.front) (length s.block ∷ []) (sizes s.back) (length m) lens_cut lens_long k 1 (sizes_length s.front) refl ∙ h.good.lensed;
          few = omega (arith, rest_length, h.good.few);
          fitting = omega (arith, ap sum rest_sized, rest_sum, start_all, h.good.fitting);
          unlike = ap distinct (rest_tiled ∙ rest_keys) ∙ distinct_is (keys s.front ++ keys s.back) (distinct_cut t (keys s.front) (keys s.back) (distinct_of (keys s.front ++ (t ∷ keys s.back)) (ap distinct (sym tiles_cut) ∙ h.good.unlike)));
        };
        tiled = rest_tiled;
        sized = rest_sized;
        filled = rest_filled;
      }

    -- ---- each call, on the store and on the map

    abbrev arrays : Arrays
    arrays = record { list = list; tiles = tiles; bytes = bytes }

    abbrev Step : Call → Type 0
    Step c = Matches (store_call entries c arrays) (map_call entries room c m)

    -- a call that leaves the store as it is
    still : (x : Answer) (out : List ℕ) → Matches ((x, out), arrays) ((x, out), m)
    unfolding Matches
    still x out = (refl, record { lens = lens; lists = refl; holds = h })

    put_done : (t : ℕ) (b : List ℕ) (s : Missing t m) (few : length m < entries) (fit : sum (sizes m) + length b ≤ room)
        → Matches (
          (done 0, []),
          record {
            list = set (set list (2 + length m) (length b)) 1 (length m + 1);
            tiles = set tiles (length m) t;
            bytes = paste bytes (sum (sizes m)) b (length b);
          },
        )
        ((done 0, []), m ++ ((t, b) ∷ []))
    unfolding Matches new
    put_done t b s few fit = (
      refl,
      record {
        lens = set lens (length m) (length b);
        lists =
            listed_more room (length m) (length m) (length b) (length m + 1) lens
            ∙ ap (λ (n : ℕ). room ∷ n ∷ set lens (length m) (length b)) (sym (new_length t s b few fit));
        holds = new_holds t s b few fit;
      },
    )

    put_step : (t : ℕ) (b : List ℕ) → Step (Put t b)
    unfolding put_of
    put_step t b = ⊎_elim here gone (split t m)
      where
        here : Split t m → Step (Put t b)
        here s = rw (is_sound, is_found t s, s.looked) (still (refused 31 0) [])

        over : Missing t m → (x y : Bool) → leb entries (length m) ≡ x → ltb room (sum (sizes m) + length b) ≡ y → Step (Put t b)
        over s true y e f = rw (is_sound, is_missing t s, s.looked, e) (still (refused 33 0) [])
        over s false true e f = rw (is_sound, is_missing t s, s.looked, e, start_all, f) (still (refused 30 0) [])
        over s false false e f =
            rw (is_sound, is_missing t s, s.looked, e, start_all, f)
            (put_done t b s (leb-false entries (length m) e) (ltb-false room (sum (sizes m) + length b) f))

        gone : Missing t m → Step (Put t b)
        gone s = over s (leb entries (length m)) (ltb room (sum (sizes m) + length b)) refl refl

    -- an entry's length, where the list has it
    entry_is : (k : ℕ) → get_or list (2 + k) 0 ≡ get_or lens k 0
    entry_is k = rw (two_more k)

    length_step : (t : ℕ) → Step (Length t)
    unfolding length_held
    length_step t = ⊎_elim here gone (split t m)
      where
        here : Split t m → Step (Length t)
        here s =
            rw (is_sound, is_found t s, s.looked, at_is t s, entry_is (length s.front), length_is t s)
            (still (done (length s.block)) [])

        gone : Missing t m → Step (Length t)
        gone s = rw (is_sound, is_missing t s, s.looked) (still (refused 32 0) [])

    fetch_step : (t : ℕ) (out : List ℕ) → Step (Fetch t out)
    unfolding fetch_of
    fetch_step t out = ⊎_elim (λ s. here s (eqb (length out) (length s.block)) refl) gone (split t m)
      where
        here : (s : Split t m) (x : Bool) → eqb (length out) (length s.block) ≡ x → Step (Fetch t out)
        here s true e =
            let n : length out ≡ length s.block = eqb-true (length out) (length s.block) e in
            rw (is_sound, is_found t s, s.looked, at_is t s, entry_is (length s.front), length_is t s, start_is t s, e, n, block_is t s)
            (still (done 0) s.block)
        here s false e = rw (is_sound, is_found t s, s.looked, at_is t s, entry_is (length s.front), length_is t s, e) (still (refused 6 0) out)

        gone : Missing t m → Step (Fetch t out)
        gone s = rw (is_sound, is_missing t s, s.looked) (still (refused 32 0) out)

    drop_done : (t : ℕ) (s : Split t m)
        → Matches (
          (done 0, []),
          record {
            list = set (closed list (2 + length s.front) 1 (2 + length m)) 1 (length m - 1);
            tiles = closed tiles (length s.front) 1 (length m);
            bytes = closed bytes (sum (sizes s.front)) (length s.block) (sum (sizes m));
          },
        )
        ((done 0, []), s.front ++ s.back)
    unfolding Matches rest k closed_bytes
    drop_done t s = (
      refl,
      record {
        lens = closed lens (length s.front) 1 (length m);
        lists =
            listed_less room (length m) (length s.front) (length m) (length m - 1) lens
            ∙ ap (λ (n : ℕ). room ∷ n ∷ closed lens (length s.front) 1 (length m)) (sym (rest_length t s));
        holds = rest_holds t s;
      },
    )

    drop_step : (t : ℕ) → Step (Drop t)
    unfolding drop_of
    drop_step t = ⊎_elim here gone (split t m)
      where
        here : Split t m → Step (Drop t)
        here s =
            rw (is_sound, is_found t s, s.looked, s.gone, at_is t s, entry_is (length s.front), length_is t s, start_is t s, start_all)
            (drop_done t s)

        gone : Missing t m → Step (Drop t)
        gone s = rw (is_sound, is_missing t s, s.looked) (still (refused 32 0) [])

    step : (c : Call) → Step c
    step (Put t b) = put_step t b
    step (Length t) = length_step t
    step (Fetch t out) = fetch_step t out
    step (Drop t) = drop_step t

-- ---- a set-up, of any arrays of the right lengths

module _ (entries : ℕ) (list tiles bytes : List ℕ) (small : length bytes ≤ 65536) (e : listed entries list tiles ≡ true) where
  pub set_up_is : set_up entries list tiles bytes ≡ (done 0, length bytes ∷ 0 ∷ drop 2 list)
  unfolding set_up
  set_up_is = rw (le-ltb 65536 (length bytes) small, e) (ap (λ (l : List ℕ). (done 0, set (set l 0 (length bytes)) 1 0)) (list_is list entries (listed_lists entries list tiles e)))

  nothing : Holds entries (length bytes) tiles (drop 2 list) bytes []
  unfolding sum sizes keys flat distinct
  nothing = record {
    good = record {
      small = small;
      whole = refl;
      tiled = listed_tiled entries list tiles e;
      lensed = length-drop 2 list ∙ omega (arith, listed_lists entries list tiles e);
      few = omega arith;
      fitting = omega arith;
      unlike = refl;
    };
    tiled = refl;
    sized = refl;
    filled = refl;
  }

  -- the arrays after it
  abbrev pub emptied : Arrays
  emptied = record { list = (set_up entries list tiles bytes).1; tiles = tiles; bytes = bytes }

  empty_within : Within entries (length bytes) emptied []
  empty_within = record { lens = drop 2 list; lists = ap (λ (x : Answer × List ℕ). x.1) set_up_is; holds = nothing }

-- ---- a store that holds a map is sound

within_sound : (entries room : ℕ) (s : Arrays) (m : Map) → Within entries room s m → sound entries s.list s.tiles s.bytes ≡ true
within_sound entries room s m r =
    subst (λ (l : List ℕ). sound entries l s.tiles s.bytes ≡ true) (sym r.lists) (is_sound entries room s.tiles r.lens s.bytes m r.holds)

-- and so is one that a set-up leaves
pub emptied_sound : (entries : ℕ) (list tiles bytes : List ℕ) (small : length bytes ≤ 65536) (e : listed entries list tiles ≡ true)
    → sound entries (set_up entries list tiles bytes).1 tiles bytes ≡ true
emptied_sound entries list tiles bytes small e =
    within_sound entries (length bytes) (emptied entries list tiles bytes small e) [] (empty_within entries list tiles bytes small e)

-- ---- two machines that go in step see the same

module _ {C S T : Type 0} (f : C → S → Seen × S) (g : C → T → Seen × T) (R : S → T → Type 0)
    (one : (c : C) (s : S) (t : T) → R s t → ((f c s).0 ≡ (g c t).0) × R (f c s).1 (g c t).1) where
  pub in_step : (cs : List C) (s : S) (t : T) → R s t → run f cs s ≡ run g cs t
  unfolding run
  in_step [] s t r = refl
  in_step (c ∷ cs) s t r =
      let p = one c s t r in
      ap (λ (x : Seen). x ∷ run f cs (f c s).1) p.0 ∙ ap (λ (l : List Seen). (g c t).0 ∷ l) (in_step cs (f c s).1 (g c t).1 p.1)

-- ---- the theorem

module _ (entries room : ℕ) where
  call_step : (c : Call) (s : Arrays) (m : Map) → Within entries room s m → Matches entries room (store_call entries c s) (map_call entries room c m)
  call_step c s m r =
      subst (λ (l : List ℕ). Matches entries room (store_call entries c (record { list = l; tiles = s.tiles; bytes = s.bytes })) (map_call entries room c m))
      (sym r.lists) (step entries room s.tiles r.lens s.bytes m r.holds c)

  reset_step : (s : Arrays) (m : Map) → Within entries room s m → Matches entries room (store_reset entries s) ((done 0, []), [])
  unfolding Matches
  reset_step s m r =
      let g = r.holds.good in
      let small : length s.bytes ≤ 65536 = omega (arith, g.whole, g.small) in
      let e : listed entries s.list s.tiles ≡ true =
      rw (eq-eqb (length s.list) (2 + entries) (omega (arith, ap length r.lists, g.lensed)), eq-eqb (length s.tiles) entries g.tiled) in (
        ap (λ (x : Answer × List ℕ). (x.0, [])) (set_up_is entries s.list s.tiles s.bytes small e),
        subst (λ (n : ℕ). Within entries n (emptied entries s.list s.tiles s.bytes small e) []) g.whole
            (empty_within entries s.list s.tiles s.bytes small e),
      )

  one_step : (e : Event) (s : Arrays) (m : Map) → Within entries room s m
      → ((store_step entries e s).0 ≡ (map_step entries room e m).0) × Within entries room (store_step entries e s).1 (map_step entries room e m).1
  unfolding Matches
  one_step (Do c) s m r = call_step c s m r
  one_step Reset s m r = reset_step s m r

  in_time : (es : List Event) (s : Arrays) (m : Map) → Within entries room s m → run (store_step entries) es s ≡ run (map_step entries room) es m
  in_time es s m r = in_step (store_step entries) (map_step entries room) (Within entries room) one_step es s m r

-- from a set-up over a buffer of at most 65,536 bytes, whatever stands in the arrays
pub as_a_map : (entries : ℕ) (list tiles bytes : List ℕ) (small : length bytes ≤ 65536) (e : listed entries list tiles ≡ true) (es : List Event)
    → run (store_step entries) es (emptied entries list tiles bytes small e) ≡ run (map_step entries (length bytes)) es []
as_a_map entries list tiles bytes small e es =
    in_time entries (length bytes) es (emptied entries list tiles bytes small e) [] (empty_within entries list tiles bytes small e)

-- ---- and from any store that is not refused, ours or not, as the map that it shows

shown_keys : (ts ns b : List ℕ) → length ts ≡ length ns → keys (shown ts ns b) ≡ ts
unfolding keys shown
shown_keys [] ns b e = refl
shown_keys (t ∷ ts) [] b e = absurd (omega arith)
shown_keys (t ∷ ts) (n ∷ ns) b e = ap (λ (l : List ℕ). t ∷ l) (shown_keys ts ns (drop n b) (omega arith))

shown_sizes : (ts ns b : List ℕ) → length ts ≡ length ns → sum ns ≤ length b → sizes (shown ts ns b) ≡ ns
unfolding sizes shown sum
shown_sizes [] [] b e h = refl
shown_sizes [] (n ∷ ns) b e h = absurd (omega arith)
shown_sizes (t ∷ ts) [] b e h = absurd (omega arith)
shown_sizes (t ∷ ts) (n ∷ ns) b e h =
    ap (λ (x : ℕ). x ∷ sizes (shown ts ns (drop n b))) (length-take-le n b (omega arith))
    ∙ ap (λ (l : List ℕ). n ∷ l) (shown_sizes ts ns (drop n b) (omega arith) (omega (arith, length-drop n b)))

shown_flat : (ts ns b : List ℕ) → length ts ≡ length ns → flat (shown ts ns b) ≡ take (sum ns) b
unfolding flat shown sum
shown_flat [] [] b e = refl
shown_flat [] (n ∷ ns) b e = absurd (omega arith)
shown_flat (t ∷ ts) [] b e = absurd (omega arith)
shown_flat (t ∷ ts) (n ∷ ns) b e = ap (λ (l : List ℕ). take n b ++ l) (shown_flat ts ns (drop n b) (omega arith)) ∙ sym (take-add n (sum ns) b)

-- ---- a store shows the map that it holds

shown_whole : (m : Map) (b : List ℕ) → take (sum (sizes m)) b ≡ flat m → shown (keys m) (sizes m) b ≡ m
unfolding shown keys sizes flat sum
shown_whole [] b e = refl
shown_whole (x ∷ m) b e =
    let n : ℕ = length x.1 in
    let f : take n b ≡ x.1 =
    sym (take-take n (n + sum (sizes m)) b (omega arith)) ∙ ap (take n) e ∙ take_at x.1 (flat m) n refl in
    let g : take (sum (sizes m)) (drop n b) ≡ flat m =
    sym (drop-take n (sum (sizes m)) b) ∙ ap (drop n) e ∙ drop_at x.1 (flat m) n refl in
    ap (λ (l : List ℕ). (x.0, l) ∷ shown (keys m) (sizes m) (drop n b)) f ∙ ap (λ (l : Map). x ∷ l) (shown_whole m (drop n b) g)

map_within : (entries room : ℕ) (s : Arrays) (m : Map) → Within entries room s m → map_of s ≡ m
unfolding map_of
map_within entries room s m r =
    let c : held_of s.list ≡ length m = ap held_of r.lists in
    let d : drop 2 s.list ≡ r.lens = ap (drop 2) r.lists in
    rw (c, d, r.holds.tiled, r.holds.sized) (shown_whole m s.bytes r.holds.filled)

module _ (entries : ℕ) (s : Arrays) (e : sound entries s.list s.tiles s.bytes ≡ true) where
  known : Facts entries s.list s.tiles s.bytes
  known = facts entries s.list s.tiles s.bytes e

  ts : List ℕ
  ts = take (held_of s.list) s.tiles

  ns : List ℕ
  ns = take (held_of s.list) (drop 2 s.list)

  ts_length : length ts ≡ held_of s.list
  unfolding ts
  ts_length = length-take-le (held_of s.list) s.tiles (omega (arith, known.tiled, known.few))

  ns_length : length ns ≡ held_of s.list
  unfolding ns
  ns_length = length-take-le (held_of s.list) (drop 2 s.list) (omega (arith, known.lists, known.few, length-drop 2 s.list))

  map_is : map_of s ≡ shown ts ns s.bytes
  unfolding map_of ts ns
  map_is = refl

  map_length_lem : held_of s.list ≡ length (map_of s)
  map_length_lem =
      sym ts_length ∙ ap length (sym (shown_keys ts ns s.bytes (ts_length ∙ sym ns_length))) ∙ keys_length (shown ts ns s.bytes) ∙ ap length (sym map_is)

  shows : Within entries (room_of s.list) s (map_of s)
  unfolding ts ns
  shows =
      let z : sizes (map_of s) ≡ ns = ap sizes map_is ∙ shown_sizes ts ns s.bytes (ts_length ∙ sym ns_length) (omega (arith, known.fitting, known.whole)) in
      record {
        lens = drop 2 s.list;
        lists =
            list_is s.list entries known.lists ∙ ap (λ (n : ℕ). room_of s.list ∷ n ∷ drop 2 s.list) map_length_lem;
        holds = record {
          good = subst (λ (n : ℕ). Good entries (room_of s.list) n s.tiles (drop 2 s.list) s.bytes) map_length_lem
              (record {
                small = known.small;
                whole = known.whole;
                tiled = known.tiled;
                lensed = length-drop 2 s.list ∙ omega (arith, known.lists);
                few = known.few;
                fitting = known.fitting;
                unlike = known.unlike;
              });
          tiled =
              ap (λ (n : ℕ). take n s.tiles) (sym map_length_lem) ∙ sym (shown_keys ts ns s.bytes (ts_length ∙ sym ns_length)) ∙ ap keys (sym map_is);
          sized = ap (λ (n : ℕ). take n (drop 2 s.list)) (sym map_length_lem) ∙ sym z;
          filled =
              ap (λ (l : List ℕ). take (sum l) s.bytes) z ∙ sym (shown_flat ts ns s.bytes (ts_length ∙ sym ns_length)) ∙ ap flat (sym map_is);
        };
      }

  pub as_it_shows : (es : List Event) → run (store_step entries) es s ≡ run (map_step entries (room_of s.list)) es (map_of s)
  as_it_shows es = in_time entries (room_of s.list) es s (map_of s) shows

  -- ---- each call commutes with it

  pub commutes : (c : Call) → ((store_call entries c s).0 ≡ (map_call entries (room_of s.list) c (map_of s)).0)
      × (map_of (store_call entries c s).1 ≡ (map_call entries (room_of s.list) c (map_of s)).1)
  unfolding Matches
  commutes c =
      let p = call_step entries (room_of s.list) c s (map_of s) shows in
      (p.0, map_within entries (room_of s.list) (store_call entries c s).1 (map_call entries (room_of s.list) c (map_of s)).1 p.1)

  -- ---- and leaves a sound store

  pub call_sound : (c : Call)
      → sound entries (store_call entries c s).1.list (store_call entries c s).1.tiles (store_call entries c s).1.bytes ≡ true
  unfolding Matches
  call_sound c =
      within_sound entries (room_of s.list) (store_call entries c s).1 (map_call entries (room_of s.list) c (map_of s)).1
      (call_step entries (room_of s.list) c s (map_of s) shows).1
