-- What the theorems of blocks speak of. Definitions only.
use Rattle.std.specs.Prelude.{◌≡◌, Bool, true, false, cond, List, [], ◌∷◌, ℕ, ◌*◌, ◌<◌, T, eqb, length, get_or, take, drop}
use Rattle.std.specs.Float.{nan, binary64}
use Rattle.std.specs.Float.Ieee.{fits}
use Rattle.grid.specs.Real.{Vec}
use Rattle.answers.specs.Answers.{done}
use Rattle.answers.specs.declared.Answer.{Answer}
use Rattle.octets.specs.Bytes.{words_bytes}
use Rattle.block_read.specs.Content.{Part, Words, Content, block_of}
use Rattle.block_read.specs.Reading.{Text, good, refused, reading}
use Rattle.block_read.specs.Held.{block_read}
use Rattle.block_read.specs.Lookup.{span_of, part_of, first}

-- these bytes are the block of that content
pub record IsBlock (t : List ℕ) (r c : ℕ) (ps : List Part) : Type 0 where
  pub content : Content r c ps
  pub bytes : t ≡ block_of r c ps

-- the numbers have 64 bits
abbrev pub Numbers : List Part → Type 0
Numbers [] = Unit
Numbers ((kind, words) ∷ ps) = Words words × Numbers ps

-- ---- a content's part of a kind

unfoldable pub has_part : ℕ → List Part → Bool
has_part kind [] = false
has_part kind ((k, words) ∷ ps) = cond (eqb k kind) true (has_part kind ps)

-- its numbers; none where there is none
unfoldable pub part_words : ℕ → List Part → List ℕ
part_words kind [] = []
part_words kind ((k, words) ∷ ps) = cond (eqb k kind) words (part_words kind ps)

-- the same of what was read; a refused block has none
abbrev pub has_in : ℕ → Text → Bool
has_in kind (good r c ps) = has_part kind ps
has_in kind (refused a) = false

abbrev pub words_in : ℕ → Text → List ℕ
words_in kind (good r c ps) = part_words kind ps
words_in kind (refused a) = []

-- the numbers of the tile's own part of that kind where it has one, else those of the main block's
abbrev pub chosen : List ℕ → List ℕ → ℕ → List ℕ
chosen own main kind = cond (has_in kind (reading own)) (words_in kind (reading own)) (words_in kind (reading main))

-- a block by its number, with rows and columns of what was read; a refused block has none
abbrev pub shape_in : ℕ → Text → ℕ × ℕ × ℕ
shape_in block (good r c ps) = (block, r, c)
shape_in block (refused a) = (0, 0, 0)

-- that of the tile's own content where it has a part of that kind, else of the main block's where that has one, else none
abbrev pub chosen_shape : List ℕ → List ℕ → ℕ → ℕ × ℕ × ℕ
chosen_shape own main kind = cond (has_in kind (reading own)) (shape_in 1 (reading own)) (cond (has_in kind (reading main)) (shape_in 2 (reading main)) (0, 0, 0))

-- numbers that an f64 holds, as those of every slice are
abbrev pub Doubles : Vec → Type 0
Doubles xs = (i : ℕ) → i < length xs → T (fits binary64 (get_or xs i nan))

-- ---- what the writer left, what the reader and the lookup say

-- where the writer answers 0, what it left is the block of what it was told, and is read as that
pub record Wrote (r c : ℕ) (ps : List Part) (x : Answer × List ℕ) : Type 0 where
  pub block : IsBlock x.1 r c ps
  pub back : reading x.1 ≡ good r c ps

-- the lookup in one block says of a kind what that block's content has of it
pub record Spanned (t : List ℕ) (kind : ℕ) (x : Text) : Type 0 where
  pub there : first (span_of t kind) true false ≡ has_in kind x
  pub bytes : part_of t (span_of t kind) ≡ words_bytes (words_in kind x)

-- the reader's record says that content: its sizes, and each part where it stands
pub record Recorded (t : List ℕ) (r c : ℕ) (ps : List Part) : Type 0 where
  pub answer : (block_read t).answer ≡ done 0
  pub rows : (block_read t).rows ≡ r
  pub columns : (block_read t).columns ≡ c
  pub values : take (8 * (block_read t).values) (drop (block_read t).values_at t) ≡ words_bytes (part_words 1 ps)
  pub matrix : take (8 * (block_read t).matrix) (drop (block_read t).matrix_at t) ≡ words_bytes (part_words 2 ps)
  pub inverse : take (8 * (block_read t).inverse) (drop (block_read t).inverse_at t) ≡ words_bytes (part_words 3 ps)

-- the block that is named: 1 the tile's own; 2, and 0 for the empty start, the main one
abbrev pub named : {A : Type 0} → ℕ → A → A → A
named block own main = cond (eqb block 1) own main
