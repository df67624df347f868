use mathlib.Core.Path.{◌∙◌, ap}
use native.Mathlib.Omega.{arith}
use Rattle.grid.specs.TableLaws.{turns, turns_none, turns_more}
use Rattle.solve.specs.Solution.{column_sum}
use native.Mathlib.Nat.{le_antisymm}
use Rattle.grid.specs.Real.{◌⊕◌, ◌⊗◌, at}
use Rattle.grid.specs.Cell.{entry}
use Rattle.solve.proofs.solution.column_sums.Goals as goal

pub loop-i-init : goal.loop-i-init
loop-i-init c = c.fill.ensures ∙ rw c.requires.2 (turns_none _ _)

pub loop-i-preserved : goal.loop-i-preserved
loop-i-preserved c = turns_more _ _ _ c.loop-i.invariant c.add_row.ensures

pub returns : goal.returns
unfolding turns column_sum
returns c = c.loop-i.invariant ∙ ap (turns (λ j i acc. acc ⊕ entry c.args.a.now c.args.cols i j ⊗ at c.args.v.now i) c.args.cols) (le_antisymm (omega arith) c.loop-i-test.false)
