-- The definitions at a small block and at bytes that are none, computed.
use mathlib.Core.Path.{◌≡◌, refl}
use mathlib.Core.List.{List, [], ◌∷◌, ◌++◌}
use Prim.Native.Nat.{ℕ}
use lib.ListN.{set, take}
use Rattle.answers.specs.Answers.{least}
use Rattle.octets.specs.Bytes.{be, three, words_bytes, num, words_at}
use Rattle.block_read.specs.Content.{Part, size, heads, entries_bytes, numbers_bytes, block_of}
use Rattle.block_read.specs.Reading.{good, dimensions, head_answer, entry_answer, end_answer, entries, behind, answer_of, parts_at, reading}
use Rattle.block_read.specs.Held.{place_in}
use Rattle.block_read.specs.Lookup.{span_of, lookup, found}
use Rattle.block_write.specs.Writing.{given, heads_answer, checked, length_of}
use Rattle.block_write.specs.PutLaws.{bytes_of, length_with, length_by_lem}

-- one row and two columns: the value 1.0 and an inverse of a NaN with a payload and -0.0
abbrev pub content : List Part
content = (1, 0x3ff0_0000_0000_0000 ∷ []) ∷ (3, 0x7ff8_0000_0000_0001 ∷ 0x8000_0000_0000_0000 ∷ []) ∷ []

abbrev pub block : List ℕ
block =
    0 ∷ 0 ∷ 0 ∷ 1 ∷ 0 ∷ 0 ∷ 0 ∷ 2 ∷ 0 ∷ 0 ∷ 0 ∷ 2
    ∷ 0 ∷ 0 ∷ 0 ∷ 1 ∷ 0 ∷ 0 ∷ 0 ∷ 36 ∷ 0 ∷ 0 ∷ 0 ∷ 1
    ∷ 0 ∷ 0 ∷ 0 ∷ 3 ∷ 0 ∷ 0 ∷ 0 ∷ 44 ∷ 0 ∷ 0 ∷ 0 ∷ 2
    ∷ 63 ∷ 240 ∷ 0 ∷ 0 ∷ 0 ∷ 0 ∷ 0 ∷ 0
    ∷ 127 ∷ 248 ∷ 0 ∷ 0 ∷ 0 ∷ 0 ∷ 0 ∷ 1 ∷ 128 ∷ 0 ∷ 0 ∷ 0 ∷ 0 ∷ 0 ∷ 0 ∷ 0 ∷ []

pub block_written : block_of 1 2 content ≡ block
unfolding block_of heads entries_bytes numbers_bytes words_bytes three be
block_written = refl

pub block_read_lem : reading block ≡ good 1 2 content
unfolding reading answer_of behind dimensions entries entry_answer head_answer size least end_answer parts_at words_at num
block_read_lem = refl

-- the answer with the byte at i set to x, and with the first n bytes alone
abbrev pub answer : ℕ → ℕ → ℕ
answer i x = answer_of (set block i x)

abbrev pub short : ℕ → ℕ
short n = answer_of (take n block)

pub cut_short : (short 0 ∷ short 11 ∷ short 12 ∷ short 35 ∷ short 36 ∷ short 59 ∷ short 60 ∷ []) ≡ (20 ∷ 20 ∷ 20 ∷ 20 ∷ 20 ∷ 20 ∷ 0 ∷ [])
unfolding answer_of behind dimensions entries entry_answer head_answer size least end_answer num
cut_short = refl

-- rows 257, four parts, kind 0, kind 4, a count of 2, an offset of 37, the kind 1 again
pub refusals : (answer 2 1 ∷ answer 11 4 ∷ answer 15 0 ∷ answer 15 4 ∷ answer 23 2 ∷ answer 19 37 ∷ answer 27 1 ∷ []) ≡ (22 ∷ 22 ∷ 23 ∷ 23 ∷ 22 ∷ 24 ∷ 23 ∷ [])
unfolding answer_of behind dimensions entries entry_answer head_answer size least end_answer num
refusals = refl

pub bytes_over : answer_of (block ++ (0 ∷ [])) ≡ 21
unfolding answer_of behind dimensions entries entry_answer head_answer size least end_answer num
bytes_over = refl

-- the inverse, from this block where its own has none, and from none
pub inverse_found : lookup [] block 3 ≡ words_bytes (0x7ff8_0000_0000_0001 ∷ 0x8000_0000_0000_0000 ∷ [])
unfolding lookup span_of place_in answer_of behind dimensions entries entry_answer head_answer size least end_answer num words_bytes be
inverse_found = refl

pub matrix_missing : lookup block [] 2 ≡ []
unfolding lookup span_of place_in answer_of behind dimensions entries entry_answer head_answer size least end_answer num
matrix_missing = refl

-- the inverse of the main block where one byte of the tile's own is wrong: where it is, that block's rows and columns, and both answers
pub damaged_told : found (set block 19 37) block 3 ≡ record { block = 2; start = 44; count = 2; rows = 1; columns = 2; own_answer = 24; main_answer = 0 }
unfolding found span_of place_in answer_of behind dimensions entries entry_answer head_answer size least end_answer num
damaged_told = refl

-- the writer's order: rows before kinds, a part's kind before its count, the first part before the second
pub writer_order :
    (checked 257 2 2 ((0, 0) ∷ (0, 0) ∷ []) ∷ checked 1 2 2 ((0, 0) ∷ (1, 0) ∷ []) ∷ checked 1 2 2 ((1, 0) ∷ (1, 0) ∷ [])
    ∷ checked 1 2 4 [] ∷ checked 1 2 0 [] ∷ []) ≡ (22 ∷ 23 ∷ 22 ∷ 22 ∷ 0 ∷ [])
unfolding checked dimensions heads_answer head_answer size least
writer_order = refl

-- the lengths of this block, of one with no part, of a full one, and of two that are refused
pub lengths_worked :
    (length_of 1 2 2 1 3 0 ∷ length_of 1 2 0 9 9 9 ∷ length_of 256 256 3 1 2 3 ∷ length_of 1 2 2 3 1 0 ∷ length_of 257 1 1 1 0 0 ∷ []) ≡ (60 ∷ 12 ∷ 1050672 ∷ 0 ∷ 0 ∷ [])
unfolding checked dimensions heads_answer head_answer given length_with bytes_of size least
lengths_worked = rw (length_by_lem 1 2 2 1 3 0, length_by_lem 1 2 0 9 9 9, length_by_lem 256 256 3 1 2 3, length_by_lem 1 2 2 3 1 0, length_by_lem 257 1 1 1 0 0)
