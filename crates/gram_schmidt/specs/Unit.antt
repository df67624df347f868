-- A column over its norm, as a column of q, operation for operation. Definitions only.
use Rattle.std.specs.Prelude.{cond, ℕ, Float, length, set}
use Rattle.std.specs.Float.Ieee.{lt}
use Rattle.grid.specs.Loop.{upto}
use Rattle.grid.specs.Real.{Vec, epsilon, zeros, at, ◌⊘◌}
use Rattle.grid.specs.Cell.{put_entry}
use Rattle.answers.specs.Answers.{answered, done, emptied}
use Rattle.answers.specs.declared.Answer.{Answer}
use Rattle.leaves.specs.Leaf.{is_finite}
use Rattle.leaves.specs.Scan.{class_of}

-- c over `by`, row by row
unfoldable pub over : ℕ → Float → Vec → Vec
over m by c = upto (λ row c. set c row (at c row ⊘ by)) 0 m c

-- a norm that is not above EPSILON makes zeroes
unfoldable pub normalised : ℕ → Float → Vec → Vec
normalised m by c = cond (lt epsilon by) (over m by c) (zeros (length c))

-- all m rows of c as column j of q, which has k columns
unfoldable pub put_column : ℕ → ℕ → ℕ → Vec → Vec → Vec
put_column m k j c q = upto (λ row q. put_entry q k row j (at c row)) 0 m q

-- 8 or 10 where the norm of c, which becomes column j, is not finite: its class decides, and the index is the column too
unfoldable pub finished : ℕ → ℕ → ℕ → Float → Vec → Vec → Answer × Vec
finished m k j by c q = cond (is_finite by) (done 0, put_column m k j (normalised m by c) q) (emptied (answered (class_of by) j j 0) q)
