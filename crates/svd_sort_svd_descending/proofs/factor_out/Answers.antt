use native.Mathlib.Omega.{arith}
use Rattle.grid.specs.LoopLaws.{start, next, done}
use Rattle.svd_sort_svd_descending.specs.OutLaws.{factor_out}
use Rattle.grid.specs.TableLaws.{row_end}
use Rattle.svd_sort_svd_descending.proofs.factor_out.Goals as goal

pub loop-k-init : goal.loop-k-init
loop-k-init c = start _ _ _

pub column_out-requires : goal.column_out-requires
column_out-requires c = (omega (arith, row_end c.args.cols c.args.rows _ (c.requires.named c.loop-k.k (omega arith)), c.requires.there), λ i h. omega (arith, c.requires.room c.loop-k.k i (omega arith) h))

pub loop-k-preserved : goal.loop-k-preserved
loop-k-preserved c = next _ _ _ _ (omega arith) c.loop-k.invariant c.column_out.ensures

pub returns : goal.returns
unfolding factor_out
returns c = done _ _ _ (omega arith) (omega arith) c.loop-k.invariant
