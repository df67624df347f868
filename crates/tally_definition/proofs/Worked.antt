-- A series of tiles with two that are refused, what it leaves, and the edge of each limit of 36, computed.
use mathlib.Core.Path.{◌≡◌, refl}
use mathlib.Core.List.{[], ◌∷◌}
use Prim.Native.Nat.{ℕ}
use Rattle.tally_definition.specs.Figures.{Tile}
use Rattle.grid.specs.Loop.{every}
use Rattle.tally_definition.specs.Tallies.{small, fit, refusal, next, outcome, none}
use Rattle.tally_definition.specs.Series.{series}
use Rattle.tally_definition.specs.declared.Tally.{Tally}

abbrev pub tile : ℕ → ℕ → Tile
tile a p = record { answer = a; passes = p }

-- seven tiles, of which the third has a bad answer and the fifth too many passes; the second, the fourth and the last have the most
pub worked : series none (tile 0 12 ∷ tile 3 15360 ∷ tile 16 1 ∷ tile 0 15360 ∷ tile 9 15361 ∷ tile 15 0 ∷ tile 9 15360 ∷ [])
    ≡ record { tiles = 5; counts = 2 ∷ 0 ∷ 0 ∷ 1 ∷ 0 ∷ 0 ∷ 0 ∷ 0 ∷ 0 ∷ 1 ∷ 0 ∷ 0 ∷ 0 ∷ 0 ∷ 0 ∷ 1 ∷ []; passes = 46092; most = 15360; first = 1 }
unfolding series none outcome refusal fit next small every
worked = refl

-- a tally with the figures given, its counts 0 but for answer 7
abbrev pub holding : ℕ → ℕ → ℕ → ℕ → ℕ → Tally
holding t c p m f = record { tiles = t; counts = 0 ∷ 0 ∷ 0 ∷ 0 ∷ 0 ∷ 0 ∷ 0 ∷ c ∷ 0 ∷ 0 ∷ 0 ∷ 0 ∷ 0 ∷ 0 ∷ 0 ∷ 0 ∷ []; passes = p; most = m; first = f }

-- each figure at its limit is taken; one more of each is refused, and behind 38
pub edges : (refusal (holding 65535 65536 1006632960 15360 65535) 15 15360 ≡ 0)
    × (refusal (holding 65536 0 0 0 0) 0 0 ≡ 36)
    × (refusal (holding 0 65537 0 0 0) 0 0 ≡ 36)
    × (refusal (holding 0 0 1006632961 0 0) 0 0 ≡ 36)
    × (refusal (holding 0 0 0 15361 0) 0 0 ≡ 36)
    × (refusal (holding 0 0 0 0 65536) 0 0 ≡ 36)
    × (refusal (holding 65536 65537 1006632961 15361 65536) 16 0 ≡ 38)
    × (refusal (holding 65536 65537 1006632961 15361 65536) 0 15361 ≡ 38)
unfolding refusal fit small every
edges = (refl, refl, refl, refl, refl, refl, refl, refl)
