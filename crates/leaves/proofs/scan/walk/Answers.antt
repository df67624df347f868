use mathlib.Core.Path.{refl, ap}
use native.Mathlib.Omega.{arith}
use lib.ListN.{length}
use Rattle.grid.specs.Real.{at}
use Rattle.leaves.proofs.scan.Search.{left_more, found_here, found_none}
use Rattle.std.proofs.Common.{not}
use Rattle.leaves.proofs.scan.walk.Goals as goal

pub loop-k-init : goal.loop-k-init
loop-k-init c = (omega arith, refl)

pub returns-then-not-is_finite : goal.returns-then-not-is_finite
returns-then-not-is_finite c = found_here (at c.args.d.now) c.loop-k.k (length c.args.d.now) (omega arith) (rw (← c.is_finite.ensures) (ap not c.if-not-is_finite.true)) c.class_of.ensures c.loop-k.invariant.1

pub loop-k-preserved : goal.loop-k-preserved
loop-k-preserved c = (omega arith, left_more (at c.args.d.now) c.loop-k.k (length c.args.d.now) (omega arith) (rw (← c.is_finite.ensures) (ap not c.if-not-is_finite.false)) c.loop-k.invariant.1)

pub returns : goal.returns
returns c = found_none (at c.args.d.now) c.loop-k.k (length c.args.d.now) (omega arith) c.loop-k.invariant.1
