-- A run of `symmetric_eigen` on the arrays that it is lent: how it stands there, and how it ends. Definitions only.
-- While it goes on e stands in work, d at the front of the result and v, column by column, behind it.
use Rattle.std.specs.Prelude.{ℕ, take, drop}
use Rattle.grid.specs.Real.{Vec}
use Rattle.answers.specs.declared.Answer.{Answer}
use Rattle.eigen_tql2_pass.specs.declared.Run.{Run}
use Rattle.eigen_tql2.specs.LStartEnd.{State}
use Rattle.eigen_tql2.specs.Finish.{ql_finished}
use Rattle.eigen_symmetric_eigen.specs.SymmetricEigen.{given}

-- v, d and e as they stand in the arrays
abbrev pub state_of : ℕ → Run → Vec → Vec → State
state_of n r work result = (r, drop n result, take n result, work)

-- mark 2 and the sort, or what mark 1 or the limit answers, and the arrays as the scope has them
unfoldable pub closed_up : ℕ → Run → Vec → Vec → Answer × Vec × Vec
closed_up n r work result = given n (ql_finished n (state_of n r work result))
