-- The lookup over two blocks: which part of which, as bytes, as a place in memory, by its numbers and as doubles. Definitions only.
use Rattle.std.specs.Prelude.{cond, List, [], map, Option, Some, None, ℕ, ◌+◌, ◌*◌, ◌/◌, ◌-◌, eqb, length, take, drop}
use Rattle.grid.specs.Real.{Vec}
use Rattle.answers.specs.Answers.{answered, refused}
use Rattle.answers.specs.declared.Answer.{Answer}
use Rattle.octets.specs.Bytes.{num, words_at}
use Rattle.octets.specs.Bits.{float}
use Rattle.block_read.specs.Content.{size}
use Rattle.block_read.specs.Reading.{answer_of}
use Rattle.block_read.specs.Held.{place_in}
use Rattle.block_read.specs.declared.lookup.Found.{Found}

-- a part's start and end in its block
abbrev pub Span : Type 0
Span = Option (ℕ × ℕ)

-- a place, where 0 says that there is none
abbrev pub placed : ℕ → Option ℕ
placed at = cond (eqb at 0) None (Some at)

-- where the part of a kind stands in a block; a refused block has none
unfoldable pub span_of : List ℕ → ℕ → Span
span_of t kind =
    let at = place_in t (num 4 t 8) 12 kind in
    cond (eqb (answer_of t) 0) (cond (eqb at 0) None (Some (at, at + 8 * size (num 4 t 0) (num 4 t 4) kind))) None

-- the bytes of a span; none where there is none
abbrev pub part_of : List ℕ → Span → List ℕ
part_of t (Some (a, e)) = take (e - a) (drop a t)
part_of t None = []

-- where that part starts in memory, for a block that starts at p: an allocation and an offset in it
abbrev pub part_at : ℕ × ℕ → Span → ℕ × ℕ
part_at p (Some (a, e)) = (p.0, a + p.1)
part_at p None = p

-- ---- the tile's own block before the main one

-- x where the tile's own block has the part, else y
abbrev pub first : {A : Type 0} → Span → A → A → A
first (Some _) x y = x
first None x y = y

-- its bytes
unfoldable pub lookup : List ℕ → List ℕ → ℕ → List ℕ
lookup own main kind = first (span_of own kind) (part_of own (span_of own kind)) (part_of main (span_of main kind))

-- where it starts in memory
unfoldable pub lookup_at : ℕ × ℕ → List ℕ → ℕ × ℕ → List ℕ → ℕ → ℕ × ℕ
lookup_at p own q main kind = first (span_of own kind) (part_at p (span_of own kind)) (part_at q (span_of main kind))

-- the same by its numbers, as `Found` has them: of a block t that is the tile's own (1) or the main one (2), with both answers
abbrev pub found_in : ℕ → List ℕ → Span → ℕ → ℕ → Found
found_in block t (Some (a, e)) x y =
    record { block = block; start = a; count = (e - a) / 8; rows = num 4 t 0; columns = num 4 t 4; own_answer = x; main_answer = y }
found_in block t None x y = record { block = 0; start = 0; count = 0; rows = 0; columns = 0; own_answer = x; main_answer = y }

-- the tile's own part by its three numbers, else the main block's
unfoldable pub found : List ℕ → List ℕ → ℕ → Found
found own main kind =
    first (span_of own kind) (found_in 1 own (span_of own kind) (answer_of own) (answer_of main)) (found_in 2 main (span_of main kind) (answer_of own) (answer_of main))

-- the part that is found, as doubles, where out has room for just these, with the reader's answer for the tile's own block as the place; else 6 and out as it was
unfoldable pub copied : List ℕ → List ℕ → ℕ → Vec → Answer × Vec
copied own main kind out =
    let part = lookup own main kind in
    cond (eqb (length part / 8) (length out)) (answered 0 (answer_of own) 0 0, map float (words_at part 0 (length out))) (refused 6 0, out)
