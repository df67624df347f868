-- What the reader answers, for every list of bytes, in the scope's order, and what a block that it takes holds. Definitions only.
use Rattle.std.specs.Prelude.{cond, List, [], ◌∷◌, ℕ, zero, suc, ◌+◌, ◌*◌, ltb, leb, eqb, length}
use Rattle.octets.specs.Bytes.{num, words_at}
use Rattle.block_read.specs.Content.{Part, size}

-- a, or b where a is 0: the first of two refusals
abbrev pub or_else : ℕ → ℕ → ℕ
or_else a b = cond (eqb a 0) b a

-- ---- what reader and writer refuse alike

-- 22 for the first three numbers
unfoldable pub dimensions : ℕ → ℕ → ℕ → ℕ
dimensions rows columns count = cond (ltb 256 rows) 22 (cond (ltb 256 columns) 22 (cond (ltb 3 count) 22 0))

-- 23, then 22, for a part of that kind with n numbers, behind one of the kind last; the first part is behind the kind 0
unfoldable pub head_answer : ℕ → ℕ → ℕ → ℕ → ℕ → ℕ
head_answer rows columns last kind n = cond (leb kind last) 23 (cond (ltb 3 kind) 23 (cond (eqb n (size rows columns kind)) 0 22))

-- ---- the reader

-- 23, 22 and 24 for the entry at `at`, behind a part of the kind last, whose numbers should start at off
unfoldable pub entry_answer : List ℕ → ℕ → ℕ → ℕ → ℕ → ℕ → ℕ
entry_answer t rows columns at last off =
    or_else (head_answer rows columns last (num 4 t at) (num 4 t (at + 8))) (cond (eqb (num 4 t (at + 4)) off) 0 24)

-- 20 and 21 for a block of that length whose numbers end at off
unfoldable pub end_answer : ℕ → ℕ → ℕ
end_answer len off = cond (ltb len off) 20 (cond (ltb off len) 21 0)

-- so many entries from `at` on, the numbers of the first starting at off, and what stands behind the last
unfoldable pub entries : List ℕ → ℕ → ℕ → ℕ → ℕ → ℕ → ℕ → ℕ
entries t rows columns zero at last off = end_answer (length t) off
entries t rows columns (suc left) at last off =
    or_else (entry_answer t rows columns at last off) (entries t rows columns left (at + 12) (num 4 t at) (off + 8 * size rows columns (num 4 t at)))

-- the answer where the first twelve bytes are there and say rows, columns and count
unfoldable pub behind : List ℕ → ℕ → ℕ → ℕ → ℕ
behind t rows columns count =
    or_else (dimensions rows columns count) (cond (ltb (length t) (12 + 12 * count)) 20 (entries t rows columns count 12 0 (12 + 12 * count)))

-- the reader's answer: 0, or the refusal
unfoldable pub answer_of : List ℕ → ℕ
answer_of t = cond (ltb (length t) 12) 20 (behind t (num 4 t 0) (num 4 t 4) (num 4 t 8))

-- ---- what is in a block that is taken

-- the parts of so many entries from `at` on, the numbers of the first starting at off
unfoldable pub parts_at : List ℕ → ℕ → ℕ → ℕ → ℕ → ℕ → List Part
parts_at t rows columns zero at off = []
parts_at t rows columns (suc left) at off =
    (num 4 t at, words_at t off (size rows columns (num 4 t at))) ∷ parts_at t rows columns left (at + 12) (off + 8 * size rows columns (num 4 t at))

-- a content, or the refusal
pub data Text : Type 0 where
  good : ℕ → ℕ → List Part → Text
  refused : ℕ → Text

unfoldable pub reading : List ℕ → Text
reading t =
    cond (eqb (answer_of t) 0)
    (good (num 4 t 0) (num 4 t 4) (parts_at t (num 4 t 0) (num 4 t 4) (num 4 t 8) 12 (12 + 12 * num 4 t 8)))
    (refused (answer_of t))
