-- Series of tiles added to a tally one after the other, and the tally that a list's figures make. Definitions only.
use Rattle.std.specs.Prelude.{cond, List, [], ◌∷◌, eqb, length}
use Rattle.tally_definition.specs.Figures.{Tile, counts, total, most, first}
use Rattle.tally_definition.specs.Tallies.{refusal, outcome}
use Rattle.tally_definition.specs.declared.Tally.{Tally}

-- the tally that holds a list's figures
abbrev pub figures : List Tile → Tally
figures l = record { tiles = length l; counts = counts l; passes = total l; most = most l; first = first l }

-- a series of tiles added one after the other
unfoldable pub series : Tally → List Tile → Tally
series t [] = t
series t (x ∷ l) = series (outcome t x.answer x.passes).tally l

-- the tiles of a series that are not refused
unfoldable pub taken_of : Tally → List Tile → List Tile
taken_of t [] = []
taken_of t (x ∷ l) =
    cond (eqb (refusal t x.answer x.passes) 0)
    (x ∷ taken_of (outcome t x.answer x.passes).tally l)
    (taken_of (outcome t x.answer x.passes).tally l)
