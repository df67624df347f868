use mathlib.Core.Path.{◌≡◌}
use native.Mathlib.Omega.{arith}
use lib.ListN.{length}
use Rattle.grid.specs.LoopLaws.{start, next, done}
use Rattle.gram_schmidt.specs.Gram.{less_columns}
use Rattle.gram_schmidt.proofs.less_columns.Goals as goal

pub loop-i-init : goal.loop-i-init
loop-i-init c = start _ _ _

pub loop-i-preserved : goal.loop-i-preserved
loop-i-preserved c =
    let long : length c.loop-i.c ≡ c.args.m = omega arith in
    next _ _ _ _ (omega arith) c.loop-i.invariant (rw (← c.column_of.ensures, ← long, ← c.dot-proj.ensures) c.lessen.ensures)

pub returns : goal.returns
unfolding less_columns
returns c = done _ _ _ (omega arith) (omega arith) c.loop-i.invariant
