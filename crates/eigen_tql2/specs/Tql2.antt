-- Document 000's `tql2`, operation for operation, with the marks and the limit of the scope. Definitions only.
-- v is the n by n matrix, column by column. What a step changes comes last, in the order v, d, e, and the run's record r in front of them.
use Rattle.std.specs.Prelude.{ℕ, ◌-◌, set}
use Rattle.grid.specs.Loop.{upto}
use Rattle.grid.specs.Real.{Vec, zero64, at}
use Rattle.answers.specs.declared.Answer.{Answer}
use Rattle.eigen_tql2.specs.LStartEnd.{fresh}
use Rattle.eigen_tql2.specs.RunOverL.{run}
use Rattle.eigen_tql2.specs.Finish.{ql_finished}

-- the subdiagonal stands one place lower from here on, and its last is 0
unfoldable pub moved_up : ℕ → Vec → Vec
moved_up n e = set (upto (λ i e. set e (i - 1) (at e i)) 1 n e) (n - 1) zero64

-- the whole: the answer, v, d and e. e moved up, the run over every l, and what it ends in
unfoldable pub tql2 : ℕ → ℕ → ℕ → Vec × Vec × Vec → Answer × Vec × Vec × Vec
tql2 n limit edition (v, d, e) = ql_finished n (run n limit edition (fresh, v, d, moved_up n e))
