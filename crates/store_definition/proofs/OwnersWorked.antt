-- Two owners with quotas of 3 and 2 of 6 bytes: what each call of a sequence gives, computed.
use mathlib.Core.Path.{◌≡◌, refl}
use mathlib.Core.List.{List, [], ◌∷◌}
use Prim.Native.Nat.{ℕ, ◌-◌}
use lib.ListN.{replicate, get_or, set}
use Rattle.answers.specs.Answers.{done, refused}
use Rattle.store_definition.specs.Store.{place, sum, distinct, sound, put_of, length_held, fetch_of, drop_of}
use Rattle.store_definition.specs.Calls.{Put, Length, Fetch, Drop, Seen, run, Arrays}
use Rattle.store_definition.specs.Owners.{laid, barred, set_up2, sound_both, reset, put_for, length_for, fetch_for, drop_for}
use Rattle.store_definition.specs.OwnersEvents.{Event2, By, ResetBoth, two_step}

abbrev pub start : Arrays
start = record {
  list = (set_up2 (replicate 70 9) (replicate 64 5) (0 ∷ 0 ∷ 0 ∷ 0 ∷ 0 ∷ 0 ∷ []) 3 2).1;
  tiles = replicate 64 5;
  bytes = 0 ∷ 0 ∷ 0 ∷ 0 ∷ 0 ∷ 0 ∷ [];
}

abbrev pub events : List Event2
events =
    By 0 (Put 7 (1 ∷ 2 ∷ [])) ∷ By 1 (Put 7 (3 ∷ 4 ∷ 5 ∷ [])) ∷ By 1 (Put 7 (3 ∷ 4 ∷ [])) ∷ By 2 (Put 7 []) ∷ By 0 (Put 7 []) ∷ By 1 (Length 7)
    ∷ By 0 (Drop 7) ∷ By 1 (Fetch 7 (0 ∷ 0 ∷ [])) ∷ By 0 (Length 7) ∷ By 0 (Put 8 (6 ∷ 6 ∷ 6 ∷ [])) ∷ ResetBoth ∷ By 1 (Drop 7) ∷ By 0 (Length 8) ∷ []

abbrev pub seen : List Seen
seen =
    (done 0, []) ∷ (refused 30 0, []) ∷ (done 0, []) ∷ (refused 34 0, []) ∷ (refused 31 0, []) ∷ (done 2, [])
    ∷ (done 0, []) ∷ (done 0, 3 ∷ 4 ∷ []) ∷ (refused 32 0, []) ∷ (done 0, []) ∷ (done 0, []) ∷ (refused 32 0, []) ∷ (refused 32 0, []) ∷ []

pub worked : run two_step events start ≡ seen
unfolding run place sum distinct sound put_of length_held fetch_of drop_of laid barred set_up2 sound_both reset put_for length_for fetch_for drop_for
worked = refl

-- owner 1's list says that it holds 33 blocks: owner 0's calls are done, owner 1's and a reset are refused
damaged : Arrays
damaged = record { list = set start.list 36 33; tiles = start.tiles; bytes = start.bytes }

stopped : run two_step (By 0 (Put 7 (1 ∷ 2 ∷ [])) ∷ By 1 (Length 7) ∷ ResetBoth ∷ By 0 (Length 7) ∷ []) damaged
    ≡ (done 0, []) ∷ (refused 39 0, []) ∷ (refused 39 0, []) ∷ (done 2, []) ∷ []
unfolding damaged run place sum distinct sound put_of length_held laid barred set_up2 sound_both reset put_for length_for
stopped = refl

-- the numbers of the set-up are 6, 3, 2 and 1: with one less in any of them a length, like every call, is refused
lessened : ℕ → Arrays
lessened i = record { list = set start.list i (get_or start.list i 0 - 1); tiles = start.tiles; bytes = start.bytes }

shut : (run two_step (By 1 (Length 7) ∷ ResetBoth ∷ []) (lessened 0) ≡ (refused 39 0, []) ∷ (refused 39 0, []) ∷ [])
    × (run two_step (By 1 (Length 7) ∷ ResetBoth ∷ []) (lessened 1) ≡ (refused 39 0, []) ∷ (refused 39 0, []) ∷ [])
    × (run two_step (By 1 (Length 7) ∷ ResetBoth ∷ []) (lessened 35) ≡ (refused 39 0, []) ∷ (refused 39 0, []) ∷ [])
    × (run two_step (By 1 (Length 7) ∷ ResetBoth ∷ []) (lessened 69) ≡ (refused 39 0, []) ∷ (refused 39 0, []) ∷ [])
unfolding lessened run laid barred set_up2 sound_both reset length_for
shut = (refl, refl, refl, refl)
