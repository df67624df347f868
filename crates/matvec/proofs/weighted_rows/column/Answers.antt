use mathlib.Core.Path.{ap}
use native.Mathlib.Omega.{arith}
use Rattle.grid.specs.LoopLaws.{start, next, done}
use lib.Ieee.{Float}
use lib.ListN.{set}
use Rattle.matvec.proofs.weighted_rows.column.Goals as goal

pub loop-r-init : goal.loop-r-init
loop-r-init c = start _ _ _

pub loop-r-preserved : goal.loop-r-preserved
loop-r-preserved c = next _ _ _ _ (omega arith) c.loop-r.invariant (rw (← c.entry.ensures))

pub returns : goal.returns
returns c = ap (λ (x : Float). set c.args.w.now c.args.c x) (done _ _ {b = c.args.e} _ (omega arith) (omega arith) c.loop-r.invariant)
