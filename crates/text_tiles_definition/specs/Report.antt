-- The text of a tally's figures. Definitions only.
use Rattle.std.specs.Prelude.{cond, List, [], ◌∷◌, ◌++◌, ℕ, ◌-◌, ltb, eqb, get_or}
use Rattle.text.specs.Writing.{number, joined}
use Rattle.tally_definition.specs.declared.Tally.{Tally}

-- figure k: the tiles, the counts of the answers 0 to 15, the passes, the most, the first
unfoldable pub figure : Tally → ℕ → ℕ
figure t k =
    cond (eqb k 0) t.tiles (cond (ltb k 17) (get_or t.counts (k - 1) 0) (cond (eqb k 17) t.passes (cond (eqb k 18) t.most t.first)))

-- a figure and a line feed
abbrev pub figure_line : Tally → ℕ → List ℕ
figure_line t k = number (figure t k) 10

-- "end" and a line feed
abbrev pub end_text : List ℕ
end_text = 101 ∷ 110 ∷ 100 ∷ 10 ∷ []

abbrev pub report_text : Tally → List ℕ
report_text t = joined (figure_line t) 20 ++ end_text
