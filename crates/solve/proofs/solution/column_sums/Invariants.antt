use mathlib.Core.Path.{◌≡◌}
use Rattle.grid.specs.TableLaws.{turns}
use Rattle.grid.specs.Real.{◌⊕◌, ◌⊗◌, at}
use Rattle.grid.specs.Cell.{entry}
use Rattle.solve.proofs.solution.column_sums.Given as goal

abbrev pub invariant-loop-i : goal.invariant-loop-i
invariant-loop-i l = l.y ≡ turns (λ j i acc. acc ⊕ entry l.a l.cols i j ⊗ at l.v i) l.cols l.i
