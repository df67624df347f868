-- What a transform block holds, and the one block of it. Definitions only.
use Rattle.std.specs.Prelude.{cond, List, [], ◌∷◌, ◌++◌, ℕ, ◌+◌, ◌*◌, ◌^◌, ◌≤◌, ◌<◌, eqb, length, get_or, ◌≡◌}
use Rattle.answers.specs.Answers.{least}
use Rattle.octets.specs.Bytes.{three, words_bytes}

-- a part: its kind, 1 values, 2 matrix, 3 inverse, and its numbers by their bits, so that each of a NaN's patterns is content like any other
abbrev pub Part : Type 0
Part = ℕ × List ℕ

-- how many numbers a part of that kind has
unfoldable pub size : ℕ → ℕ → ℕ → ℕ
size rows columns kind = cond (eqb kind 1) (least rows columns) (rows * columns)

-- ---- which contents there are: kinds from 1 to 3 that ascend strictly, behind the kind last, the right count of numbers of 64 bits each

abbrev pub Words : List ℕ → Type 0
Words ws = (i : ℕ) → i < length ws → get_or ws i 0 < 2 ^ 64

abbrev pub Parts : ℕ → ℕ → ℕ → List Part → Type 0
Parts rows columns last [] = Unit
Parts rows columns last ((kind, words) ∷ ps) =
    ((last < kind) × (kind ≤ 3)) × ((length words ≡ size rows columns kind) × Words words) × Parts rows columns kind ps

pub record Content (rows columns : ℕ) (ps : List Part) : Type 0 where
  pub high : rows ≤ 256
  pub wide : columns ≤ 256
  pub few : length ps ≤ 3
  pub parts : Parts rows columns 0 ps

-- ---- the block of a content

-- the kind and the count of each part
unfoldable pub heads : List Part → List (ℕ × ℕ)
heads [] = []
heads ((kind, words) ∷ ps) = (kind, length words) ∷ heads ps

-- an entry for each part: kind, offset, count. The first part's numbers start at off, each other's where the last end
unfoldable pub entries_bytes : ℕ → List (ℕ × ℕ) → List ℕ
entries_bytes off [] = []
entries_bytes off ((kind, n) ∷ hs) = three kind off n ++ entries_bytes (off + 8 * n) hs

-- the numbers of all parts, one behind the other, as bytes
unfoldable pub numbers_bytes : List Part → List ℕ
numbers_bytes [] = []
numbers_bytes ((kind, words) ∷ ps) = words_bytes words ++ numbers_bytes ps

-- rows, columns, how many parts; the entries; the numbers
unfoldable pub block_of : ℕ → ℕ → List Part → List ℕ
block_of rows columns ps = three rows columns (length ps) ++ (entries_bytes (12 + 12 * length ps) (heads ps) ++ numbers_bytes ps)
