-- A store of 3 entries and 10 bytes: what each call of a sequence gives, and what is refused with 39, computed.
use mathlib.Core.Path.{◌≡◌, refl}
use mathlib.Core.List.{List, [], ◌∷◌}
use Rattle.answers.specs.Answers.{done, refused}
use Rattle.store_definition.specs.Store.{place, sum, distinct, sound, set_up, put_of, length_held, fetch_of, drop_of}
use Rattle.store_definition.specs.Calls.{Put, Length, Fetch, Drop, Event, Do, Reset, Seen, run, store_step}

abbrev pub events : List Event
events =
    Reset ∷ Do (Put 7 (97 ∷ 98 ∷ 99 ∷ 100 ∷ [])) ∷ Do (Put 7 []) ∷ Do (Put 8 (101 ∷ 102 ∷ 103 ∷ [])) ∷ Do (Put 9 (1 ∷ 2 ∷ 3 ∷ 4 ∷ [])) ∷ Do (Put 9 (1 ∷ 2 ∷ 3 ∷ []))
    ∷ Do (Put 10 []) ∷ Do (Drop 8) ∷ Do (Length 8) ∷ Do (Length 9) ∷ Do (Fetch 9 (0 ∷ 0 ∷ 0 ∷ [])) ∷ Do (Fetch 7 (0 ∷ [])) ∷ Do (Put 10 []) ∷ Do (Length 10) ∷ Reset ∷ Do (Drop 7) ∷ []

abbrev pub seen : List Seen
seen =
    (done 0, []) ∷ (done 0, []) ∷ (refused 31 0, []) ∷ (done 0, []) ∷ (refused 30 0, []) ∷ (done 0, [])
    ∷ (refused 33 0, []) ∷ (done 0, []) ∷ (refused 32 0, []) ∷ (done 3, []) ∷ (done 0, 1 ∷ 2 ∷ 3 ∷ []) ∷ (refused 6 0, 0 ∷ []) ∷ (done 0, []) ∷ (done 0, []) ∷ (done 0, [])
    ∷ (refused 32 0, []) ∷ []

pub worked : run (store_step 3) events (record { list = 9 ∷ 9 ∷ 9 ∷ 9 ∷ 9 ∷ []; tiles = 5 ∷ 5 ∷ 5 ∷ []; bytes = 0 ∷ 0 ∷ 0 ∷ 0 ∷ 0 ∷ 0 ∷ 0 ∷ 0 ∷ 0 ∷ 0 ∷ [] }) ≡ seen
unfolding run place sum distinct sound set_up put_of length_held fetch_of drop_of
worked = refl

-- taken; then too many held, lengths that leave the buffer, a tile twice, a buffer of another length, a list one short
pub looked : (length_held 3 (3 ∷ 3 ∷ 1 ∷ 2 ∷ 0 ∷ []) (1 ∷ 2 ∷ 3 ∷ []) (0 ∷ 0 ∷ 0 ∷ []) 2 ≡ done 2)
    × (length_held 3 (3 ∷ 4 ∷ 1 ∷ 2 ∷ 0 ∷ []) (1 ∷ 2 ∷ 3 ∷ []) (0 ∷ 0 ∷ 0 ∷ []) 2 ≡ refused 39 0)
    × (length_held 3 (3 ∷ 3 ∷ 1 ∷ 2 ∷ 1 ∷ []) (1 ∷ 2 ∷ 3 ∷ []) (0 ∷ 0 ∷ 0 ∷ []) 2 ≡ refused 39 0)
    × (length_held 3 (3 ∷ 3 ∷ 1 ∷ 2 ∷ 0 ∷ []) (1 ∷ 2 ∷ 1 ∷ []) (0 ∷ 0 ∷ 0 ∷ []) 2 ≡ refused 39 0)
    × (length_held 3 (4 ∷ 3 ∷ 1 ∷ 2 ∷ 0 ∷ []) (1 ∷ 2 ∷ 3 ∷ []) (0 ∷ 0 ∷ 0 ∷ []) 2 ≡ refused 39 0)
    × (length_held 3 (3 ∷ 3 ∷ 1 ∷ 2 ∷ []) (1 ∷ 2 ∷ 3 ∷ []) (0 ∷ 0 ∷ 0 ∷ []) 2 ≡ refused 39 0)
unfolding place sum distinct sound length_held
looked = (refl, refl, refl, refl, refl, refl)
