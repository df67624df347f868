-- What is proved of the text of a matrix. Laws only.
use Rattle.std.specs.Prelude.{true, List, [], ◌∷◌, ◌↔◌, ◌≡◌, ◌*◌, ◌<◌, ◌≤◌, ℕ, length}
use Rattle.std.specs.Float.{binary64}
use Rattle.std.specs.Float.Ieee.{of_bits}
use Rattle.text.proofs.Worked.{all_none, answer_written, bad_written, bytes, input_read, input_written, refused}
use Rattle.text.specs.Accepts.{Words, Written}
use Rattle.text.specs.AcceptsLaws.{accepted, accepts, exactly, one_writing}
use Rattle.text.specs.Reading.{good, reading}
use Rattle.text.specs.Writing.{answer_text, bad_text, writing}

-- A text is accepted exactly where it is the writing of an n, a limit and n·n words, and of those.
pub t8_exactly : (t : List ℕ) (n limit : ℕ) (ws : List ℕ) → (reading t ≡ good n limit ws) ↔ Written t n limit ws
t8_exactly = exactly

-- Every writing of an n up to 32, a limit below 1,000 and n·n words is accepted, and read as those.
pub t8_accepts : (n limit : ℕ) (ws : List ℕ) → n ≤ 32 → limit < 1000 → length ws ≡ n * n → Words ws → reading (writing n limit ws) ≡ good n limit ws
t8_accepts = accepts

-- What is accepted is such a writing.
pub t8_accepted : (t : List ℕ) (n limit : ℕ) (ws : List ℕ) → reading t ≡ good n limit ws → Written t n limit ws
t8_accepted = accepted

-- A text is the writing of one n, one limit and one list of words alone.
pub t8_one_writing : (t : List ℕ) (n limit n' limit' : ℕ) (ws ws' : List ℕ) → Written t n limit ws → Written t n' limit' ws'
    → (n ≡ n') × (limit ≡ limit') × (ws ≡ ws')
t8_one_writing = one_writing

-- The scope's example is the writing of its n, limit and words, computed.
pub t8_input_written : writing 2 60 (0x4000_0000_0000_0000 ∷ 0 ∷ 0 ∷ 0x3ff0_0000_0000_0000 ∷ [])
    ≡ bytes "2 60\n4000000000000000 0000000000000000\n0000000000000000 3ff0000000000000\n"
t8_input_written = input_written

-- And is read as those.
pub t8_input_read : reading (bytes "2 60\n4000000000000000 0000000000000000\n0000000000000000 3ff0000000000000\n")
    ≡ good 2 60 (0x4000_0000_0000_0000 ∷ 0 ∷ 0 ∷ 0x3ff0_0000_0000_0000 ∷ [])
t8_input_read = input_read

-- The text of its answer, computed.
pub t8_answer_written : answer_text 0 0 0 0 2 (of_bits binary64 0x3ff0_0000_0000_0000 ∷ of_bits binary64 0x4000_0000_0000_0000 ∷ of_bits binary64 0 ∷ of_bits binary64 0x3ff0_0000_0000_0000 ∷ of_bits binary64 0x3ff0_0000_0000_0000 ∷ of_bits binary64 0 ∷ [])
    ≡ bytes "0 0 0 0\n3ff0000000000000 4000000000000000\n0000000000000000 3ff0000000000000\n3ff0000000000000 0000000000000000\n"
t8_answer_written = answer_written

-- What is written in place of an answer to a bad text.
pub t8_bad_written : bad_text ≡ bytes "bad text\n"
t8_bad_written = bad_written

-- Seventeen texts that are not accepted, computed.
pub t8_refused : all_none
    ("" ∷ "0 60" ∷ "0 60\n\n" ∷ "00 60\n" ∷ "0 060\n" ∷ "0 1000\n" ∷ "0  60\n" ∷ "0 60\r\n" ∷ " 0 60\n" ∷ "33 60\n" ∷ "1 60\n"
    ∷ "1 60\n3FF0000000000000\n" ∷ "1 60\n3ff000000000000\n" ∷ "1 60\n3ff0000000000000" ∷ "1 60\n3ff0000000000000 \n"
    ∷ "1 60\n\n3ff0000000000000\n" ∷ "1 60\n3ff0000000000000\n\n" ∷ []) ≡ true
t8_refused = refused
