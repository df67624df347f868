-- The run of `symmetric_eigen` after `tred2`: v, d and e as they are then, and afterwards the answer, v, d and e. Definitions only.
use Rattle.leaves.specs.declared.Bad.{Bad}
use Rattle.std.specs.Prelude.{cond, ◌++◌, ℕ, Option, is_some}
use Rattle.grid.specs.Real.{Vec}
use Rattle.leaves.specs.Scan.{first_bad, by_rows}
use Rattle.answers.specs.Answers.{marked}
use Rattle.answers.specs.declared.Answer.{Answer}
use Rattle.eigen_tql2.specs.Tql2.{tql2}

-- mark 0 looks at d, then at e, then at v row by row: the first number that is not finite
unfoldable pub mark0 : ℕ → Vec → Vec → Vec → Option Bad
mark0 n v d e = first_bad (d ++ e ++ by_rows n v)

-- after tred2: mark 0, or tql2
unfoldable pub after_tred : ℕ → ℕ → ℕ → Vec × Vec × Vec → Answer × Vec × Vec × Vec
after_tred n limit edition (v, d, e) = cond (is_some (mark0 n v d e)) (marked 0 0 (mark0 n v d e), v, d, e) (tql2 n limit edition (v, d, e))
