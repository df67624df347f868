use mathlib.Core.Path.{◌∙◌}
use native.Mathlib.Omega.{arith}
use Rattle.grid.specs.LoopLaws.{start, next, done}
use Rattle.grid.specs.Real.{at}
use Rattle.grid.specs.TableLaws.{each}
use Rattle.solve.specs.Solution.{coefficient}
use Rattle.solve.proofs.solution.coefficients.Goals as goal

pub loop-k-init : goal.loop-k-init
loop-k-init c = start _ _ _

pub loop-k-preserved : goal.loop-k-preserved
loop-k-preserved c = next _ _ _ _ (omega arith) c.loop-k.invariant (rw (← c.coefficient.ensures))

pub returns : goal.returns
returns c = done _ _ _ (omega arith) (omega arith) c.loop-k.invariant ∙ each (λ k x. coefficient c.args.tolerance (at c.args.s.now k) x) c.args.c.now c.args.r c.requires.1
