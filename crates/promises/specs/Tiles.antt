-- What is proved of the text that `tiles` reads. Laws only.
use Rattle.std.specs.Prelude.{List, [], ◌∷◌, ◌++◌, ◌≡◌, ℕ}
use Rattle.tally_definition.specs.Figures.{Tile}
use Rattle.tally_definition.specs.Series.{figures, series}
use Rattle.tally_definition.specs.Tallies.{none}
use Rattle.text_tiles_definition.proofs.LineLaws.{one_series, tallied_figures, tallied_series, starts}
use Rattle.text_tiles_definition.specs.Lines.{Full, Reads, StartsWith, fresh, heard, run, tallied, whole}
use Rattle.text_tiles_definition.proofs.StepLaws.{heard_tallied, run_append}
use Rattle.text_tiles_definition.specs.declared.Series.{Series}

-- Every text is the lines of some tiles, none of which is refused, and then something that starts with no line of a tile that is taken.
pub t32_starts : (t : List ℕ) → Reads t
t32_starts = starts

-- A text is so of no other tiles.
pub t32_one_series : (t : List ℕ) (l m : List Tile) → StartsWith t l → StartsWith t m → l ≡ m
t32_one_series = one_series

-- What reading a text leaves is the tally of just those tiles.
pub t32_tallied_series : (t : List ℕ) (l : List Tile) → StartsWith t l → tallied t ≡ series none l
t32_tallied_series = tallied_series

-- It holds the figures of just those tiles.
pub t32_tallied_figures : (t : List ℕ) (l : List Tile) → StartsWith t l → tallied t ≡ figures l
t32_tallied_figures = tallied_figures

-- A text may be read in pieces, cut anywhere.
pub t32_run_append : (s : Series) (t u : List ℕ) → run s (t ++ u) ≡ run (run s t) u
t32_run_append = run_append

-- What the program's loop makes of pieces that are not empty, and then of the end, is the tally of the whole text.
pub t32_heard_tallied : (ps : List (List ℕ)) → Full ps → (heard (fresh none) (ps ++ ([] ∷ []))).tally ≡ tallied (whole ps)
t32_heard_tallied = heard_tallied
