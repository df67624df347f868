-- What is lent, put together after a run. Laws only.
-- `laid` is what the code does on the way; no public promise cites it.
use Rattle.std.specs.Prelude.{cond, ◌++◌, length, drop}
use Rattle.grid.specs.Real.{Vec, zeros}
use Rattle.answers.specs.Answers.{passed}
use Rattle.answers.specs.declared.Answer.{Answer}

-- work and result, whose back holds the vectors, after a run with the values d
unfoldable pub laid : Answer → Vec → Vec → Vec → Answer × Vec × Vec
laid x d work result =
    cond (passed x)
    (x, zeros (length work), d ++ drop (length d) result)
    (x, zeros (length work), zeros (length result))
