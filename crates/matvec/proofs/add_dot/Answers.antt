use mathlib.Core.Path.{refl}
use native.Mathlib.Omega.{arith}
use lib.ListN.{length}
use Rattle.grid.specs.LoopLaws.{start, next}
use Rattle.matvec.specs.Rows.{at_turn, add_dot_done}
use Rattle.matvec.proofs.add_dot.Goals as goal

pub loop-i-init : goal.loop-i-init
loop-i-init c = (start _ _ _, start _ _ _)

pub loop-i-preserved : goal.loop-i-preserved
loop-i-preserved c = (next _ _ _ _ (omega arith) c.loop-i.invariant.0 refl, next _ _ _ _ (omega arith) c.loop-i.invariant.1 (rw (← at_turn (length c.args.w.now) c.args.f c.args.u.now c.args.w.now c.loop-i.i (omega arith) refl c.loop-i.invariant.0)))

pub returns : goal.returns
returns c = add_dot_done (length c.args.w.now) c.args.f c.args.u.now c.args.t.now c.args.w.now c.loop-i.i (omega arith) (omega arith) c.loop-i.invariant.0 c.loop-i.invariant.1
