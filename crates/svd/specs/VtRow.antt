-- Where row j of V^T stands in an svd result, if it does. Definitions only.
use Rattle.std.specs.Prelude.{cond, not, ◌&&◌, [], ℕ, ◌+◌, ◌*◌, ◌-◌, ltb, leb, eqb, Option, Some, None}
use Rattle.grid.specs.Real.{Vec}
use Rattle.grid.specs.Table.{part}
use Rattle.answers.specs.Answers.{least, present, decomposition_length}
use Rattle.svd.specs.declared.vt_row.Extent.{Extent}

-- from an index up to another, or nowhere: a dimension over 256, no V^T, a row not below r, a wrong length
unfoldable pub row_span : ℕ → ℕ → ℕ → ℕ → ℕ → ℕ → Option (ℕ × ℕ)
row_span len m n has_u has_vt j =
    let a = least m n + present has_u (m * least m n) + j * n in
    cond (leb m 256 && (leb n 256 && (not (eqb has_vt 0) && (ltb j (least m n) && eqb len (decomposition_length m n has_u has_vt))))) (Some (a, a + n)) None

-- the part of a list that a span names; else the empty one
abbrev pub part_of : Vec → Option (ℕ × ℕ) → Vec
part_of xs (Some s) = part s.0 s.1 xs
part_of xs None = []

-- where that part starts in memory, for a list that starts at p: an allocation and an offset in it, in bytes
abbrev pub part_at : ℕ × ℕ → Option (ℕ × ℕ) → ℕ × ℕ
part_at p (Some s) = (p.0, s.0 * 8 + p.1)
part_at p None = p

-- the same part by its numbers: the index where it starts, and how long it is
abbrev pub extent_of : Option (ℕ × ℕ) → Extent
extent_of (Some s) = record { start = s.0; length = s.1 - s.0 }
extent_of None = record { start = 0; length = 0 }
