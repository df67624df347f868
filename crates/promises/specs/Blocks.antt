-- What is proved of transform blocks. Laws only.
use Rattle.std.specs.Prelude.{cond, false, true, List, [], ◌++◌, ◌∷◌, map, ◌↔◌, ◌≡◌, ◌%◌, ◌*◌, ◌+◌, ◌<◌, ◌^◌, ℕ, T, eqb, ltb, Float, drop, length, set, take}
use Rattle.std.specs.Float.{binary64, nan}
use Rattle.std.specs.Float.Ieee.{fits, is_nan}
use Rattle.answers.specs.Answers.{answered, done, refused}
use Rattle.answers.specs.declared.Answer.{Answer}
use Rattle.block_read.specs.Content.{Content, Part, Words, block_of, heads}
use Rattle.block_read.specs.Reading.{answer_of, good, reading}
use Rattle.block_theorems.proofs.Worked.{block, block_read_lem, block_written, bytes_over, content, cut_short, inverse_found, lengths_worked, matrix_missing, refusals, writer_order}
use Rattle.block_theorems.specs.Doubles.{bits_float, doubles_back, doubles_copied, doubles_words, float_bits, nan_read, nan_written}
use Rattle.block_theorems.specs.FoundLaws.{copied_is, lookup_is, recorded, refused_own, refused_record, spanned}
use Rattle.block_theorems.specs.Inverse.{accepts, exactly, one_block, one_content, read_of_written, read_then_written, writes_exactly, written_block, written_of_read}
use Rattle.block_theorems.specs.OneOutcome.{check_one, copy_one, find_one, length_one, locate_one, read_one, shape_one, write_one}
use Rattle.block_theorems.specs.PlacedLaws.{found_answers, found_at, found_part, found_shape}
use Rattle.block_theorems.specs.Sound.{Doubles, IsBlock, Numbers, Recorded, Spanned, Wrote, chosen, chosen_shape, has_part, named, part_words, words_in}
use Rattle.block_write.specs.Writing.{checked, length_of, written}
use Rattle.block_read.specs.Held.{block_read, no_block, shape_of}
use Rattle.block_read.specs.Lookup.{copied, found, lookup, lookup_at}
use Rattle.block_read.specs.declared.lookup.Block.{Block}
use Rattle.block_read.specs.declared.lookup.Found.{Found}
use Rattle.block_read.specs.declared.lookup.Shape.{Shape}
use Rattle.grid.specs.Real.{Vec}
use Rattle.octets.specs.Bits.{bits, float}
use Rattle.octets.specs.Bytes.{Bytes, words_bytes}
use Rattle.block_read.specs.Reading as reads

-- Two outcomes of a block's check, its answer, that satisfy its promise are one.
pub t2_check_one : (t : List ℕ) (o p : Answer) → o ≡ refused (answer_of t) 0 → p ≡ refused (answer_of t) 0 → o ≡ p
t2_check_one = check_one

-- Two outcomes of the reader's record that satisfy its promise are one.
pub t2_read_one : (t : List ℕ) (o p : Block) → o ≡ block_read t → p ≡ block_read t → o ≡ p
t2_read_one = read_one

-- Two outcomes of `block_check`, the answer and the shape, that satisfy its promise are one.
pub t2_shape_one : (t : List ℕ) (o p : Shape) → o ≡ shape_of t → p ≡ shape_of t → o ≡ p
t2_shape_one = shape_one

-- Two outcomes of `find`, the part and where it stands, that satisfy its promise are one.
pub t2_find_one : (a b : ℕ × ℕ) (own main : List ℕ) (kind : ℕ) (o p : List ℕ × (ℕ × ℕ)) → o ≡ (lookup own main kind, lookup_at a own b main kind)
    → p ≡ (lookup own main kind, lookup_at a own b main kind) → o ≡ p
t2_find_one = find_one

-- Two outcomes of `block_find` that satisfy its promise are one.
pub t2_locate_one : (own main : List ℕ) (kind : ℕ) (o p : Found) → o ≡ found own main kind → p ≡ found own main kind → o ≡ p
t2_locate_one = locate_one

-- Two outcomes of `block_copy` that satisfy its promise are one.
pub t2_copy_one : (own main : List ℕ) (kind : ℕ) (out : Vec) (o p : Answer × Vec) → o ≡ copied own main kind out → p ≡ copied own main kind out
    → o ≡ p
t2_copy_one = copy_one

-- Two outcomes of `block_length` that satisfy its promise are one.
pub t2_length_one : (r c n k1 k2 k3 o p : ℕ) → o ≡ length_of r c n k1 k2 k3 → p ≡ length_of r c n k1 k2 k3 → o ≡ p
t2_length_one = length_one

-- Two outcomes of `block_write` that satisfy its promise are one.
pub t2_write_one : (r c n : ℕ) (ps : List Part) (out : List ℕ) (o p : Answer × List ℕ) → o ≡ written r c n ps out → p ≡ written r c n ps out → o ≡ p
t2_write_one = write_one

-- Bytes are read as a content exactly where they are its block.
pub t16_exactly : (t : List ℕ) (r c : ℕ) (ps : List Part) → Bytes t → (reading t ≡ good r c ps) ↔ IsBlock t r c ps
t16_exactly = exactly

-- A block that is taken is the block of what was read.
pub t16_written_of_read : (t : List ℕ) (r c : ℕ) (ps : List Part) → Bytes t → reading t ≡ good r c ps → IsBlock t r c ps
t16_written_of_read = written_of_read

-- The block of a content is read as that content.
pub t16_accepts : (r c : ℕ) (ps : List Part) → Content r c ps → reading (block_of r c ps) ≡ good r c ps
t16_accepts = accepts

-- Two blocks read as one content are one.
pub t16_one_block : (t u : List ℕ) (r c : ℕ) (ps : List Part) → Bytes t → Bytes u → reading t ≡ good r c ps → reading u ≡ good r c ps → t ≡ u
t16_one_block = one_block

-- A block is that of one content alone.
pub t16_one_content : (t : List ℕ) (r c r' c' : ℕ) (ps ps' : List Part) → IsBlock t r c ps → IsBlock t r' c' ps' → (r ≡ r') × (c ≡ c') × (ps ≡ ps')
t16_one_content = one_content

-- The block of a small content is these 60 bytes, computed.
pub t16_block_written : block_of 1 2 ((1, 0x3ff0_0000_0000_0000 ∷ []) ∷ (3, 0x7ff8_0000_0000_0001 ∷ 0x8000_0000_0000_0000 ∷ []) ∷ [])
    ≡ 0 ∷ 0 ∷ 0 ∷ 1 ∷ 0 ∷ 0 ∷ 0 ∷ 2 ∷ 0 ∷ 0 ∷ 0 ∷ 2
    ∷ 0 ∷ 0 ∷ 0 ∷ 1 ∷ 0 ∷ 0 ∷ 0 ∷ 36 ∷ 0 ∷ 0 ∷ 0 ∷ 1
    ∷ 0 ∷ 0 ∷ 0 ∷ 3 ∷ 0 ∷ 0 ∷ 0 ∷ 44 ∷ 0 ∷ 0 ∷ 0 ∷ 2
    ∷ 63 ∷ 240 ∷ 0 ∷ 0 ∷ 0 ∷ 0 ∷ 0 ∷ 0
    ∷ 127 ∷ 248 ∷ 0 ∷ 0 ∷ 0 ∷ 0 ∷ 0 ∷ 1 ∷ 128 ∷ 0 ∷ 0 ∷ 0 ∷ 0 ∷ 0 ∷ 0 ∷ 0 ∷ []
t16_block_written = block_written

-- Those bytes (`block`) are read as that content (`content`), computed.
pub t16_block_read : reading block ≡ good 1 2 content
t16_block_read = block_read_lem

-- Of its first 0, 11, 12, 35, 36 and 59 bytes the answer is 20, and of all 60 it is 0, computed.
pub t16_cut_short : (answer_of (take 0 block) ∷ answer_of (take 11 block) ∷ answer_of (take 12 block) ∷ answer_of (take 35 block) ∷ answer_of (take 36 block) ∷ answer_of (take 59 block) ∷ answer_of (take 60 block) ∷ [])
    ≡ (20 ∷ 20 ∷ 20 ∷ 20 ∷ 20 ∷ 20 ∷ 0 ∷ [])
t16_cut_short = cut_short

-- With one byte of it changed the answers are these, computed: rows 257, four parts, kind 0, kind 4, a count of 2, an offset of 37, the kind 1 again.
pub t16_refusals : (answer_of (set block 2 1) ∷ answer_of (set block 11 4) ∷ answer_of (set block 15 0) ∷ answer_of (set block 15 4) ∷ answer_of (set block 23 2) ∷ answer_of (set block 19 37) ∷ answer_of (set block 27 1) ∷ [])
    ≡ (22 ∷ 22 ∷ 23 ∷ 23 ∷ 22 ∷ 24 ∷ 23 ∷ [])
t16_refusals = refusals

-- With one byte behind it the answer is 21.
pub t16_bytes_over : answer_of (block ++ (0 ∷ [])) ≡ 21
t16_bytes_over = bytes_over

-- A content, written to a destination of its length, is written with answer 0 and read as it was given.
pub t17_read_of_written : (r c : ℕ) (ps : List Part) (out : List ℕ) → Content r c ps → length out ≡ length (block_of r c ps)
    → ((written r c (length ps) ps out).0 ≡ done 0) × (reading (written r c (length ps) ps out).1 ≡ good r c ps)
t17_read_of_written = read_of_written

-- Of parts whose numbers have 64 bits, the writer's checks pass exactly the contents.
pub t17_writes_exactly : (r c : ℕ) (ps : List Part) → Numbers ps → (checked r c (length ps) (heads ps) ≡ 0) ↔ Content r c ps
t17_writes_exactly = writes_exactly

-- Wherever the answer is 0 the destination is the block of what was told, and is read as that.
pub t17_written_block : (r c : ℕ) (ps : List Part) (out : List ℕ) → Numbers ps → (written r c (length ps) ps out).0.answer ≡ 0
    → Wrote r c ps (written r c (length ps) ps out)
t17_written_block = written_block

-- What was read from a block is written again, to a destination of its length, byte for byte.
pub t17_read_then_written : (t out : List ℕ) (r c : ℕ) (ps : List Part) → Bytes t → reading t ≡ good r c ps → length out ≡ length t
    → written r c (length ps) ps out ≡ (done 0, t)
t17_read_then_written = read_then_written

-- The order of the writer's checks, computed: rows before kinds, a part's kind before its count, the first part before the second; four parts are too many, none is fine.
pub t17_writer_order :
    (checked 257 2 2 ((0, 0) ∷ (0, 0) ∷ []) ∷ checked 1 2 2 ((0, 0) ∷ (1, 0) ∷ []) ∷ checked 1 2 2 ((1, 0) ∷ (1, 0) ∷ [])
    ∷ checked 1 2 4 [] ∷ checked 1 2 0 [] ∷ []) ≡ (22 ∷ 23 ∷ 22 ∷ 22 ∷ 0 ∷ [])
t17_writer_order = writer_order

-- The lengths of that small block, of one with no part, of the largest, and 0 of two that are refused, computed.
pub t17_lengths_worked :
    (length_of 1 2 2 1 3 0 ∷ length_of 1 2 0 9 9 9 ∷ length_of 256 256 3 1 2 3 ∷ length_of 1 2 2 3 1 0 ∷ length_of 257 1 1 1 0 0 ∷ []) ≡ (60 ∷ 12 ∷ 1050672 ∷ 0 ∷ 0 ∷ [])
t17_lengths_worked = lengths_worked

-- The bytes found are the numbers of the tile's own part of that kind where it has one, else of the main block's, else none.
pub t18_lookup_is : (own main : List ℕ) (kind : ℕ) → Bytes own → Bytes main → lookup own main kind ≡ words_bytes (chosen own main kind)
t18_lookup_is = lookup_is

-- Within one block: a part is found exactly where its content has one of that kind, and the bytes found are its numbers; a refused block has none.
pub t18_spanned : (t : List ℕ) (kind : ℕ) → Bytes t → Spanned t kind (reading t)
t18_spanned = spanned

-- Of a block that is taken the record has answer 0, rows and columns of the content, and for each kind an offset and a count that cut the part's bytes out of the block.
pub t18_recorded : (t : List ℕ) (r c : ℕ) (ps : List Part) → Bytes t → reading t ≡ good r c ps → Recorded t r c ps
t18_recorded = recorded

-- Of a refused block the record has the answer, and all else 0.
pub t18_refused_record : (t : List ℕ) (a : ℕ) → reading t ≡ reads.refused a → block_read t ≡ no_block a
t18_refused_record = refused_record

-- C's first three numbers, block, start and count, name the bytes that `find` returns.
pub t18_found_part : (own main : List ℕ) (kind : ℕ)
    → take (8 * (found own main kind).count) (drop (found own main kind).start (named (found own main kind).block own main)) ≡ lookup own main kind
t18_found_part = found_part

-- And the place in memory where they start.
pub t18_found_at : (p q : ℕ × ℕ) (own main : List ℕ) (kind : ℕ)
    → ((named (found own main kind).block p q).0, (found own main kind).start + (named (found own main kind).block p q).1) ≡ lookup_at p own q main kind
t18_found_at = found_at

-- Two more are the reader's answers for both blocks.
pub t18_found_answers : (own main : List ℕ) (kind : ℕ)
    → ((found own main kind).own_answer ≡ answer_of own) × ((found own main kind).main_answer ≡ answer_of main)
t18_found_answers = found_answers

-- The block is the tile's own where that has the part, else the main one where that has it, and rows and columns are its content's; else all three are 0.
pub t18_found_shape : (own main : List ℕ) (kind : ℕ) → Bytes own → Bytes main
    → ((found own main kind).block, (found own main kind).rows, (found own main kind).columns) ≡ chosen_shape own main kind
t18_found_shape = found_shape

-- Where the tile's own block is refused the numbers found are the main block's, if any.
pub t18_refused_own : (own main : List ℕ) (kind : ℕ) → (answer_of own ≡ 0 → ⊥) → chosen own main kind ≡ words_in kind (reading main)
t18_refused_own = refused_own

-- The inverse of that small block is found where the tile has no block of its own, computed.
pub t18_inverse_found : lookup [] block 3 ≡ words_bytes (0x7ff8_0000_0000_0001 ∷ 0x8000_0000_0000_0000 ∷ [])
t18_inverse_found = inverse_found

-- And no matrix is found where neither block has one.
pub t18_matrix_missing : lookup block [] 2 ≡ []
t18_matrix_missing = matrix_missing

-- A double, written as its 64 bits and read, is as it was.
pub t19_float_bits : (x : Float) → T (fits binary64 x) → float (bits x) ≡ x
t19_float_bits = float_bits

-- The bits of a number that is no NaN come back.
pub t19_bits_float : (w : ℕ) → w < 2 ^ 64 → is_nan (float w) ≡ false → bits (float w) ≡ w
t19_bits_float = bits_float

-- Each pattern of a NaN is read as the one NaN.
pub t19_nan_read : (w : ℕ) → ltb 0x7ff0_0000_0000_0000 (w % 2 ^ 63) ≡ true → float w ≡ nan
t19_nan_read = nan_read

-- The NaN is written as 7ff8000000000000.
pub t19_nan_written : bits nan ≡ 0x7ff8_0000_0000_0000
t19_nan_written = nan_written

-- A list of doubles, written and read, is as it was.
pub t19_doubles_back : (xs : Vec) → Doubles xs → map float (map bits xs) ≡ xs
t19_doubles_back = doubles_back

-- Written they are words of 64 bits.
pub t19_doubles_words : (xs : Vec) → Doubles xs → Words (map bits xs)
t19_doubles_words = doubles_words

-- What was written from doubles in a tile's own part is copied out as it was, with answer and place 0, where the destination has its length.
pub t19_doubles_copied : (t main : List ℕ) (r c : ℕ) (ps : List Part) (kind : ℕ) (xs out : Vec) → Bytes t → Bytes main → reading t ≡ good r c ps
    → has_part kind ps ≡ true → part_words kind ps ≡ map bits xs → Doubles xs → length out ≡ length xs → copied t main kind out ≡ (done 0, xs)
t19_doubles_copied = doubles_copied

-- The copy is the numbers of the chosen part with answer 0 where the destination has their length, the place the reader's answer for the tile's own block; else 6 and nothing touched.
pub t19_copied_is : (own main : List ℕ) (kind : ℕ) (out : Vec) → Bytes own → Bytes main
    → copied own main kind out ≡ cond (eqb (length (chosen own main kind)) (length out)) (answered 0 (answer_of own) 0 0, map float (chosen own main kind)) (refused 6 0, out)
t19_copied_is = copied_is
