-- What is proved of the tally. Laws only.
use Rattle.std.specs.Prelude.{cond, List, [], ◌∷◌, ◌≡◌, ℕ, ltb, length, Result}
use Rattle.tally_definition.proofs.Worked.{edges, worked}
use Rattle.tally_definition.proofs.Counted.{answered, counted, counted_taken, refused_stays, replied, taken_accepted}
use Rattle.tally_definition.specs.Figures.{Tile, accepted, good}
use Rattle.tally_definition.specs.OneOutcome.{reply_one, tally_one}
use Rattle.tally_definition.specs.Series.{figures, series, taken_of}
use Rattle.tally_definition.specs.Tallies.{Reply, none, outcome, refusal, reply_of}
use Rattle.tally_definition.specs.declared.Refusal.{Refusal}
use Rattle.tally_definition.specs.declared.Tally.{Tally}

-- Two outcomes of the call that adds a tile are one where they satisfy its promise.
pub t2_tally_one : (t : Tally) (answer passes : ℕ) (o p : Reply) → o ≡ outcome t answer passes → p ≡ outcome t answer passes → o ≡ p
t2_tally_one = tally_one

-- Two results of adding a tile to one tally that come to one reply are one.
pub t2_reply_one : (t : Tally) (x y : Result Tally Refusal) → reply_of t x ≡ reply_of t y → x ≡ y
t2_reply_one = reply_one

-- After any series of tiles each figure is the one counted from the list of those that were added.
pub t32_counted : (s : List Tile) → series none s ≡ figures (accepted s)
t32_counted = counted

-- The tiles that are not refused are the ones in range, the first 65,536 of them.
pub t32_taken_accepted : (s : List Tile) → taken_of none s ≡ accepted s
t32_taken_accepted = taken_accepted

-- So each figure is the one counted from the tiles that were not refused.
pub t32_counted_taken : (s : List Tile) → series none s ≡ figures (taken_of none s)
t32_counted_taken = counted_taken

-- The call that adds a tile behind any series answers 38 where it is out of range, else 36 where 65,536 were added before it, else 0.
pub t32_replied : (s : List Tile) (x : Tile) (o : Reply) → o ≡ outcome (series none s) x.answer x.passes
    → o.refusal ≡ cond (good x) (cond (ltb (length (accepted s)) 65536) 0 36) 38
t32_replied = replied

-- Where a call refuses a tile, the tally is as it was, whatever it holds.
pub t32_refused_stays : (t : Tally) (answer passes : ℕ) (o : Reply) → o ≡ outcome t answer passes → (o.refusal ≡ 0 → ⊥) → o.tally ≡ t
t32_refused_stays = refused_stays

-- The check behind the call's answer gives the same three numbers.
pub t32_answered : (s : List Tile) (x : Tile)
    → refusal (series none s) x.answer x.passes ≡ cond (good x) (cond (ltb (length (accepted s)) 65536) 0 36) 38
t32_answered = answered

-- A series of seven tiles, two of them out of range, and the tally that it leaves, computed.
pub t32_worked : series none
    (record { answer = 0; passes = 12 } ∷ record { answer = 3; passes = 15360 } ∷ record { answer = 16; passes = 1 } ∷ record { answer = 0; passes = 15360 }
    ∷ record { answer = 9; passes = 15361 } ∷ record { answer = 15; passes = 0 } ∷ record { answer = 9; passes = 15360 } ∷ [])
    ≡ record { tiles = 5; counts = 2 ∷ 0 ∷ 0 ∷ 1 ∷ 0 ∷ 0 ∷ 0 ∷ 0 ∷ 0 ∷ 1 ∷ 0 ∷ 0 ∷ 0 ∷ 0 ∷ 0 ∷ 1 ∷ []; passes = 46092; most = 15360; first = 1 }
t32_worked = worked

-- Each figure at its limit is taken, one more of each is refused with 36, and 38 comes before 36, computed.
pub t32_edges : let holding : ℕ → ℕ → ℕ → ℕ → ℕ → Tally = λ t c p m f. record { tiles = t; counts = 0 ∷ 0 ∷ 0 ∷ 0 ∷ 0 ∷ 0 ∷ 0 ∷ c ∷ 0 ∷ 0 ∷ 0 ∷ 0 ∷ 0 ∷ 0 ∷ 0 ∷ 0 ∷ []; passes = p; most = m; first = f } in
    (refusal (holding 65535 65536 1006632960 15360 65535) 15 15360 ≡ 0)
    × (refusal (holding 65536 0 0 0 0) 0 0 ≡ 36)
    × (refusal (holding 0 65537 0 0 0) 0 0 ≡ 36)
    × (refusal (holding 0 0 1006632961 0 0) 0 0 ≡ 36)
    × (refusal (holding 0 0 0 15361 0) 0 0 ≡ 36)
    × (refusal (holding 0 0 0 0 65536) 0 0 ≡ 36)
    × (refusal (holding 65536 65537 1006632961 15361 65536) 16 0 ≡ 38)
    × (refusal (holding 65536 65537 1006632961 15361 65536) 0 15361 ≡ 38)
t32_edges = edges
