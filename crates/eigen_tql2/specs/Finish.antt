-- How document 000's `tql2` ends, with the marks and the limit of the scope: the answer, v, d and e. Definitions only.
-- v is the n by n matrix, column by column.
use Rattle.leaves.specs.declared.Bad.{Bad}
use Rattle.std.specs.Prelude.{cond, not, ◌++◌, ℕ, eqb, Option, is_some}
use Rattle.grid.specs.Real.{Vec}
use Rattle.leaves.specs.Scan.{first_bad, by_rows}
use Rattle.answers.specs.Answers.{done, answered, marked}
use Rattle.answers.specs.declared.Answer.{Answer}
use Rattle.eigen_tql2_pass.specs.Pass.{going, limit_used}
use Rattle.eigen_tql2.specs.Sort.{sorted}
use Rattle.eigen_tql2.specs.LStartEnd.{State}

-- mark 2 looks at d, then at v row by row: the first number that is not finite
unfoldable pub mark2 : ℕ → Vec → Vec → Option Bad
mark2 n v d = first_bad (d ++ by_rows n v)

-- a run that the limit stopped, or mark 1; else mark 2, and the sort
unfoldable pub ql_finished : ℕ → State → Answer × Vec × Vec × Vec
ql_finished n (r, v, d, e) =
    cond (eqb r.stop limit_used)
    (answered 9 r.l 0 r.count, v, d, e)
    (cond (not (eqb r.stop going))
    (answered r.stop 1 r.index r.count, v, d, e)
    (cond (is_some (mark2 n v d))
    (marked 2 r.count (mark2 n v d), v, d, e)
    (let (v, d) = sorted n (v, d) in (done r.count, v, d, e))))
