use mathlib.Core.Path.{refl}
use native.Mathlib.Omega.{arith}
use Rattle.grid.specs.LoopLaws.{start, next, done}
use Rattle.svd_sort_svd_descending.specs.OutLaws.{column_out}
use Rattle.svd_sort_svd_descending.proofs.column_out.Goals as goal

pub loop-i-init : goal.loop-i-init
loop-i-init c = start _ _ _

pub loop-i-preserved : goal.loop-i-preserved
loop-i-preserved c = next _ _ _ _ (omega arith) c.loop-i.invariant refl

pub returns : goal.returns
unfolding column_out
returns c = done _ _ _ (omega arith) (omega arith) c.loop-i.invariant
