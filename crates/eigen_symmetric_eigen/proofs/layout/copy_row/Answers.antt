use native.Mathlib.Omega.{arith}
use Rattle.grid.specs.LoopLaws.{start, next, done}
use mathlib.Core.Path.{◌≡◌}
use Rattle.grid.specs.Cell.{entry}
use Rattle.eigen_symmetric_eigen.specs.LayoutSteps.{copy_row}
use Rattle.eigen_symmetric_eigen.proofs.layout.copy_row.Goals as goal

pub loop-j-init : goal.loop-j-init
loop-j-init c = start _ _ _

pub loop-j-preserved : goal.loop-j-preserved
loop-j-preserved c = let read : c.entry.result ≡ entry c.args.a.now c.args.n c.args.i c.loop-j.j = c.entry.ensures in next _ _ _ _ (omega arith) c.loop-j.invariant (rw (← read, ← c.put.ensures))

pub returns : goal.returns
unfolding copy_row
returns c = done _ _ _ (omega arith) (omega arith) c.loop-j.invariant
