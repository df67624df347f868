-- The reader's record: what a block holds, by the places of its parts. Definitions only.
use Rattle.std.specs.Prelude.{cond, List, ℕ, zero, suc, ◌+◌, eqb}
use Rattle.answers.specs.Answers.{done, refused}
use Rattle.octets.specs.Bytes.{num}
use Rattle.block_read.specs.Content.{size}
use Rattle.block_read.specs.Reading.{answer_of}
use Rattle.block_read.specs.declared.lookup.Block.{Block}
use Rattle.block_read.specs.declared.lookup.Shape.{Shape}

-- the offset in the first entry of that kind, of so many from `at` on, or 0
unfoldable pub place_in : List ℕ → ℕ → ℕ → ℕ → ℕ
place_in t zero at kind = 0
place_in t (suc left) at kind = cond (eqb (num 4 t at) kind) (num 4 t (at + 4)) (place_in t left (at + 12) kind)

-- how many numbers the part of that kind has, which starts at `at`: 0 where that is 0, for there is none then
unfoldable pub held : ℕ → ℕ → ℕ → ℕ → ℕ
held rows columns kind at = cond (eqb at 0) 0 (size rows columns kind)

-- rows, columns, and where values, matrix and inverse start: 0 where there is none
abbrev pub block_for : ℕ → ℕ → ℕ → ℕ → ℕ → Block
block_for rows columns v m i = record {
  answer = done 0;
  rows = rows;
  columns = columns;
  values_at = v;
  values = held rows columns 1 v;
  matrix_at = m;
  matrix = held rows columns 2 m;
  inverse_at = i;
  inverse = held rows columns 3 i;
}

-- the record of bytes that are refused with a
abbrev pub no_block : ℕ → Block
no_block a = record { answer = refused a 0; rows = 0; columns = 0; values_at = 0; values = 0; matrix_at = 0; matrix = 0; inverse_at = 0; inverse = 0 }

-- the record of the bytes t
unfoldable pub block_read : List ℕ → Block
block_read t =
    cond (eqb (answer_of t) 0)
    (block_for (num 4 t 0) (num 4 t 4) (place_in t (num 4 t 8) 12 1) (place_in t (num 4 t 8) 12 2) (place_in t (num 4 t 8) 12 3))
    (no_block (answer_of t))

-- the same in four numbers: the answer, rows, columns, how many parts
unfoldable pub shape_of : List ℕ → Shape
shape_of t =
    cond (eqb (answer_of t) 0)
    (record { answer = 0; rows = num 4 t 0; columns = num 4 t 4; parts = num 4 t 8 })
    (record { answer = answer_of t; rows = 0; columns = 0; parts = 0 })
