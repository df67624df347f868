-- A row's part by its numbers is the part: what it holds, and where it starts. So C's pointer and index name what `vt_row` returns. Laws only.
use Rattle.std.specs.Prelude.{◌≡◌, refl, ℕ, ◌+◌, ◌*◌, take, drop, Option, Some, None}
use Rattle.std.proofs.Common.{ap, arith}
use Rattle.grid.specs.Real.{Vec}
use Rattle.svd.specs.VtRow.{part_of, part_at, extent_of}

from_zero : (o : ℕ) → 0 + o ≡ o
from_zero o = omega arith

pub at_start : (p : ℕ × ℕ) → (p.0, 0 + p.1) ≡ p
at_start p = ap (λ (o : ℕ). (p.0, o)) (from_zero p.1)

pub extent_part : (xs : Vec) (s : Option (ℕ × ℕ)) → take (extent_of s).length (drop (extent_of s).start xs) ≡ part_of xs s
extent_part xs (Some s) = refl
extent_part xs None = refl

pub extent_at : (p : ℕ × ℕ) (s : Option (ℕ × ℕ)) → (p.0, (extent_of s).start * 8 + p.1) ≡ part_at p s
extent_at p (Some s) = refl
extent_at p None = at_start p
