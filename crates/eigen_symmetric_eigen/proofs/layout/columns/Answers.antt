use native.Mathlib.Omega.{arith}
use Rattle.grid.specs.LoopLaws.{start, next, done}
use mathlib.Core.Path.{◌∙◌}
use Rattle.eigen_symmetric_eigen.specs.LayoutLaws.{copied}
use Rattle.eigen_symmetric_eigen.proofs.layout.columns.Goals as goal

pub loop-i-init : goal.loop-i-init
loop-i-init c = start _ _ _

pub loop-i-preserved : goal.loop-i-preserved
loop-i-preserved c = next _ _ _ _ (omega arith) c.loop-i.invariant c.copy_row.ensures

pub returns : goal.returns
returns c = done _ _ _ (omega arith) (omega arith) c.loop-i.invariant ∙ copied _ _ _ c.requires.1
