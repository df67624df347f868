-- The text of a series of tiles, what reading a byte or a piece of it does, and what it is that a text has just these tiles up to where the series ends. Definitions only.
use Rattle.std.specs.Prelude.{◌≡◌, Bool, true, false, cond, ◌&&◌, List, [], ◌∷◌, ◌++◌, ℕ, ◌+◌, ◌-◌, ◌*◌, ◌<◌, ltb, leb, eqb, length}
use Rattle.text.specs.Writing.{number}
use Rattle.tally_definition.specs.Figures.{Tile}
use Rattle.tally_definition.specs.Tallies.{refusal, outcome, none}
use Rattle.tally_definition.specs.Series.{series}
use Rattle.tally_definition.specs.declared.Tally.{Tally}
use Rattle.text_tiles_definition.specs.declared.Series.{Series}

-- a tile's line: its answer, a space, its passes, a line feed
abbrev pub line : Tile → List ℕ
line x = number x.answer 32 ++ number x.passes 10

unfoldable pub lines : List Tile → List ℕ
lines [] = []
lines (x ∷ l) = line x ++ lines l

-- ---- byte by byte

abbrev pub state : Tally → ℕ → ℕ → Bool → ℕ → Series
state t stage answer begun value = record { tally = t; stage = stage; answer = answer; begun = begun; value = value }

-- before a line, and behind the series' end
abbrev pub fresh : Tally → Series
fresh t = state t 0 0 false 0

abbrev pub ended : Tally → Series
ended t = state t 2 0 false 0

-- the byte that ends a number, and the most that it may be: a tile with more is refused
unfoldable pub end_of : ℕ → ℕ
end_of stage = cond (eqb stage 0) 32 10

unfoldable pub most_of : ℕ → ℕ
most_of stage = cond (eqb stage 0) 15 15360

-- a digit more, if the number is not too large then
unfoldable pub grown : Series → ℕ → Series
grown s d =
    cond (ltb (most_of s.stage) (s.value * 10 + d)) (ended s.tally)
    (state s.tally s.stage s.answer true (s.value * 10 + d))

-- none behind a first 0
unfoldable pub digit : Series → ℕ → Series
digit s d = cond (eqb s.value 0 && s.begun) (ended s.tally) (grown s d)

-- a tile that was read is added; where it is refused the series ends
unfoldable pub tile : Tally → ℕ → ℕ → Series
tile t answer passes = cond (eqb (outcome t answer passes).refusal 0) (fresh (outcome t answer passes).tally) (ended t)

-- a number's end, behind one digit or more
unfoldable pub closed : Series → Series
closed s =
    cond s.begun
    (cond (eqb s.stage 0) (state s.tally 1 s.value false 0) (tile s.tally s.answer s.value))
    (ended s.tally)

unfoldable pub step : Series → ℕ → Series
step s b =
    cond (ltb 1 s.stage) s
    (cond (eqb b (end_of s.stage)) (closed s)
    (cond (leb 48 b && ltb b 58) (digit s (b - 48))
    (ended s.tally)))

unfoldable pub run : Series → List ℕ → Series
run s [] = s
run s (b ∷ t) = run (step s b) t

-- what a whole text leaves
abbrev pub tallied : List ℕ → Tally
tallied t = (run (fresh none) t).tally

-- ---- piece by piece

-- a piece of a text more; where there is none, the text has ended
unfoldable pub more : Series → List ℕ → Series
more s p = cond (eqb (length p) 0) (ended s.tally) (run s p)

-- pieces one after the other, none behind the series' end
unfoldable pub heard : Series → List (List ℕ) → Series
heard s [] = s
heard s (p ∷ ps) = cond (ltb 1 s.stage) s (heard (more s p) ps)

-- a text that came in pieces
unfoldable pub whole : List (List ℕ) → List ℕ
whole [] = []
whole (p ∷ ps) = p ++ whole ps

-- none of the pieces is empty
unfoldable pub Full : List (List ℕ) → Type 0
Full [] = Unit {0}
Full (p ∷ ps) = (0 < length p) × Full ps

-- ---- which tiles a text has

-- none of the tiles is refused, added to t one after the other
unfoldable pub Takes : Tally → List Tile → Type 0
Takes t [] = Unit {0}
Takes t (x ∷ l) = (refusal t x.answer x.passes ≡ 0) × Takes (outcome t x.answer x.passes).tally l

-- the bytes start with no line of a tile that t takes
abbrev pub Stops : Tally → List ℕ → Type 0
Stops t u = (x : Tile) (v : List ℕ) → refusal t x.answer x.passes ≡ 0 → u ≡ line x ++ v → ⊥

-- a text is the lines of these tiles, none of which is refused, and then something else
pub record StartsWith (t : List ℕ) (l : List Tile) : Type 0 where
  pub rest : List ℕ
  pub text : t ≡ lines l ++ rest
  pub taken : Takes none l
  pub stops : Stops (series none l) rest

-- the tiles of a text
pub record Reads (t : List ℕ) : Type 0 where
  pub tiles : List Tile
  pub starts : StartsWith t tiles
