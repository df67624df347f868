-- After a refusal the turns that are left change nothing.
use Prim.Native.Nat.{◌+◌}
use native.Mathlib.Omega.{arith}
use Rattle.grid.specs.LoopLaws.{start, next, done}
use Rattle.answers.specs.Answers.{answered}
use borrow.Author.Tests.{eq-eqb, ne_eqb}
use Rattle.qr_q.specs.QrQ.{columns}
use Rattle.qr_q.specs.Result.{column_step}
use Rattle.qr_q.proofs.Early.{stays}
use Rattle.qr_q.proofs.columns.Goals as goal

pub loop-j-init : goal.loop-j-init
loop-j-init c = (rw c.done-r.ensures, rw c.done-r.ensures (start _ _ _))

pub returns-then-r-ne0 : goal.returns-then-r-ne0
unfolding columns
returns-then-r-ne0 c = stays (column_step c.args.m c.args.k) 0 (answered 0 0 0 0, c.args.q.now) (λ i. rw (ne_eqb _ 0 c.if-r-ne0.true)) (c.loop-j.j + 1) c.args.k (omega arith) (omega arith) (next _ _ _ _ (omega arith) c.loop-j.invariant.1 (rw (eq-eqb _ 0 c.loop-j.invariant.0) c.column-r.ensures))

pub loop-j-preserved : goal.loop-j-preserved
loop-j-preserved c = (c.if-r-ne0.false, next _ _ _ _ (omega arith) c.loop-j.invariant.1 (rw (eq-eqb _ 0 c.loop-j.invariant.0) c.column-r.ensures))

pub returns : goal.returns
unfolding columns
returns c = done _ _ _ (omega arith) (omega arith) c.loop-j.invariant.1
