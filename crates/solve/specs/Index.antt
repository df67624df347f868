-- What the index of `solve` and `pseudo_inverse` points at. Definitions only.
use Rattle.std.specs.Prelude.{◌≡◌, length}
use Rattle.grid.specs.Real.{Vec, at}
use Rattle.leaves.specs.Finite.{First}
use Rattle.answers.specs.declared.Answer.{Answer}

-- number `index` of x is the first that is not finite, and of the answer's class; the place is the mark
pub record Points (x : Vec) (r : Answer) : Type 0 where
  pub first : First (at x) (length x) r.index r.answer
  pub mark : r.place ≡ 2
