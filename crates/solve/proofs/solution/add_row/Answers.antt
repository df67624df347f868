use mathlib.Core.Path.{◌∙◌}
use native.Mathlib.Omega.{arith}
use Rattle.grid.specs.LoopLaws.{start, next, done}
use Rattle.grid.specs.Real.{◌⊕◌, ◌⊗◌}
use Rattle.grid.specs.Cell.{entry}
use Rattle.grid.specs.TableLaws.{each}
use Rattle.solve.proofs.solution.add_row.Goals as goal

pub loop-j-init : goal.loop-j-init
loop-j-init c = start _ _ _

pub loop-j-preserved : goal.loop-j-preserved
loop-j-preserved c = next _ _ _ _ (omega arith) c.loop-j.invariant (rw (← c.entry.ensures))

pub returns : goal.returns
returns c = done _ _ _ (omega arith) (omega arith) c.loop-j.invariant ∙ each (λ j x. x ⊕ entry c.args.a.now c.args.cols c.args.i j ⊗ c.args.by) c.args.acc.now c.args.cols c.requires.2
