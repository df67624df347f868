use mathlib.Core.Path.{◌∙◌, refl, ap}
use native.Mathlib.Omega.{arith}
use lib.ListN.{length}
use Rattle.leaves.specs.ScanLaws.{after, lower_at, lower_is}
use Rattle.leaves.proofs.scan.Search.{left_more, found_here, found_none, after_place, start_place, place_low}
use Rattle.std.proofs.Common.{not}
use Rattle.leaves.proofs.scan.walk_lower.Goals as goal

pub loop-k-init : goal.loop-k-init
loop-k-init c = (omega arith, start_place c.args.n, refl)

pub returns-then-not-is_finite : goal.returns-then-not-is_finite
returns-then-not-is_finite c = found_here (lower_at c.args.n c.args.a.now) c.loop-k.k (length c.args.a.now) (omega arith) (rw (← c.loop-k.invariant.1, ← c.lower_of-y.ensures, ← c.is_finite.ensures) (ap not c.if-not-is_finite.true)) (rw (← c.loop-k.invariant.1, ← c.lower_of-y.ensures) c.class_of.ensures) c.loop-k.invariant.2 ∙ lower_is c.args.n c.args.a.now

pub after-p-requires : goal.after-p-requires
after-p-requires c = omega (arith, place_low c.args.n c.loop-k.k c.loop-k.invariant.1)

pub loop-k-preserved : goal.loop-k-preserved
loop-k-preserved c = (omega arith, c.after-p.ensures ∙ ap (after c.args.n) c.loop-k.invariant.1 ∙ after_place c.args.n c.loop-k.k, left_more (lower_at c.args.n c.args.a.now) c.loop-k.k (length c.args.a.now) (omega arith) (rw (← c.loop-k.invariant.1, ← c.lower_of-y.ensures, ← c.is_finite.ensures) (ap not c.if-not-is_finite.false)) c.loop-k.invariant.2)

pub returns : goal.returns
returns c = found_none (lower_at c.args.n c.args.a.now) c.loop-k.k (length c.args.a.now) (omega arith) c.loop-k.invariant.2 ∙ lower_is c.args.n c.args.a.now
