-- The four numbers that a call comes back with, and the length of an svd result. Definitions only.
use Rattle.leaves.specs.declared.Bad.{Bad}
use Rattle.std.specs.Prelude.{Bool, cond, ℕ, ◌+◌, ◌*◌, ltb, eqb, length, Option, Some, None}
use Rattle.grid.specs.Real.{Vec, zeros}
use Rattle.answers.specs.declared.Answer.{Answer}

-- answer, place, index, count
abbrev pub answered : ℕ → ℕ → ℕ → ℕ → Answer
answered a p i c = record { answer = a; place = p; index = i; count = c }

-- done, after so many passes or sweeps; of a check: it refuses nothing
abbrev pub done : ℕ → Answer
done c = answered 0 0 0 c

-- a refusal before the run
abbrev pub refused : ℕ → ℕ → Answer
refused a p = answered a p 0 0

-- nothing is refused
abbrev pub passed : Answer → Bool
passed x = eqb x.answer 0

-- a refusal that fills x with +0.0
abbrev pub emptied : Answer → Vec → Answer × Vec
emptied r x = (r, zeros (length x))

-- refusal 7: the place is the index of the number that is not finite
abbrev pub refusal7 : Option Bad → Answer
refusal7 (Some bad) = refused 7 bad.index
refusal7 None = done 0

-- refusal 7, or else the rest, where x is the one array that the refusal fills with +0.0
abbrev pub unless_bad : Option Bad → Vec → Answer × Vec → Answer × Vec
unless_bad b x rest = cond (passed (refusal7 b)) rest (emptied (refusal7 b) x)

-- what a mark answers after so many passes or sweeps: 8 or 10 by the class of the first number that is not finite, and its index, or else done
abbrev pub marked : ℕ → ℕ → Option Bad → Answer
marked mark count (Some bad) = answered bad.class mark bad.index count
marked mark count None = done count

-- r, the smaller of m and n
unfoldable pub least : ℕ → ℕ → ℕ
least m n = cond (ltb m n) m n

-- so many numbers if a flag is set: 0 is no, anything else yes
unfoldable pub present : ℕ → ℕ → ℕ
present flag count = cond (eqb flag 0) 0 count

-- the length of an svd result: the values, then U and V^T where they are there
unfoldable pub decomposition_length : ℕ → ℕ → ℕ → ℕ → ℕ
decomposition_length m n u vt = least m n + present u (m * least m n) + present vt (least m n * n)
