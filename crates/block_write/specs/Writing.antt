-- What the writer answers and leaves in its destination, and how long a block is. Definitions only.
use Rattle.std.specs.Prelude.{cond, List, [], ◌∷◌, map, ℕ, ltb, eqb, length, replicate}
use Rattle.grid.specs.Real.{Vec}
use Rattle.answers.specs.Answers.{done, refused}
use Rattle.answers.specs.declared.Answer.{Answer}
use Rattle.octets.specs.Bits.{bits}
use Rattle.block_read.specs.Content.{Part, size, heads, block_of}
use Rattle.block_read.specs.Reading.{or_else, dimensions, head_answer}

-- the writer's arguments as a list: the first count of three, each a kind with its count, or with its numbers
unfoldable pub given : {A : Type 0} → ℕ → A → A → A → List A
given count a b c = cond (ltb count 1) [] (a ∷ cond (ltb count 2) [] (b ∷ cond (ltb count 3) [] (c ∷ [])))

-- ---- refusals 22 and 23, in the reader's order

-- the first refusal of these kinds and counts, where `last` is the kind before them; else 0
unfoldable pub heads_answer : ℕ → ℕ → ℕ → List (ℕ × ℕ) → ℕ
heads_answer rows columns last [] = 0
heads_answer rows columns last ((kind, n) ∷ hs) = or_else (head_answer rows columns last kind n) (heads_answer rows columns kind hs)

-- the shape and the number of parts, then each part; 0 where none is refused
unfoldable pub checked : ℕ → ℕ → ℕ → List (ℕ × ℕ) → ℕ
checked rows columns count hs = or_else (dimensions rows columns count) (heads_answer rows columns 0 hs)

-- ---- the length

-- of the block of that shape with the first count of three kinds, whatever its numbers are; 0 where the writer refuses it
unfoldable pub length_of : ℕ → ℕ → ℕ → ℕ → ℕ → ℕ → ℕ
length_of rows columns count k1 k2 k3 =
    let part : ℕ → Part = λ kind. (kind, replicate (size rows columns kind) 0) in
    let ps : List Part = given count (part k1) (part k2) (part k3) in
    cond (eqb (checked rows columns count (heads ps)) 0) (length (block_of rows columns ps)) 0

-- ---- the writer

-- told that there are count parts, and these: 22 or 23, then 6, out as it was; or 0 and the block
unfoldable pub written : ℕ → ℕ → ℕ → List Part → List ℕ → Answer × List ℕ
written rows columns count ps out =
    cond (eqb (checked rows columns count (heads ps)) 0)
    (cond (eqb (length out) (length (block_of rows columns ps))) (done 0, block_of rows columns ps) (refused 6 0, out))
    (refused (checked rows columns count (heads ps)) 0, out)

-- a part of doubles
abbrev pub doubles : ℕ → Vec → Part
doubles kind xs = (kind, map bits xs)
