-- The loop keeps: the bits of the numbers met are set, and none of those stands twice.
use Rattle.std.proofs.Common.{refl, arith}
use Rattle.std.proofs.lemmas.Iterator.Adapters.{YieldsList-from_rev_slice}
use Rattle.std.proofs.lemmas.Iterator.Consumers.{YieldsList-turn, YieldsList-end}
use Rattle.std.proofs.lemmas.List.{length-reverse, length_push}
use Rattle.store.specs.BitLaws.{seen_none, seen_whole, seen_twice, seen_more}
use Rattle.store.proofs.loops.differ.Goals as goal

pub loop-t-init : goal.loop-t-init
loop-t-init c = seen_none c.args.s.now

pub returns-then-seen-word-ne0 : goal.returns-then-seen-word-ne0
returns-then-seen-word-ne0 c =
    let t = YieldsList-turn (YieldsList-from_rev_slice c.args.s.now cc) c.loop-t.yielded _ c.loop-t.yielded_by _ _ c.in-Some.field-0 c.in-Some.is c.next.ensures.steps in
    seen_twice _ _ _ _ _ t c.loop-t.invariant c.type_inv.s refl c.if-seen-word-ne0.true

pub loop-t-preserved : goal.loop-t-preserved
loop-t-preserved c =
    let t = YieldsList-turn (YieldsList-from_rev_slice c.args.s.now cc) c.loop-t.yielded _ c.loop-t.yielded_by _ _ c.in-Some.field-0 c.in-Some.is c.next.ensures.steps in
    seen_more _ _ _ _ _ t c.loop-t.invariant c.type_inv.s refl c.if-seen-word-ne0.false _ (length_push c.loop-t.yielded c.in-Some.field-0)

pub returns : goal.returns
returns c =
    let t = YieldsList-end (YieldsList-from_rev_slice c.args.s.now cc) c.loop-t.yielded _ c.loop-t.yielded_by _ _ c.in-None.is c.next.ensures.steps in
    seen_whole _ _ _ (omega (arith, t.1, length-reverse c.args.s.now)) c.loop-t.invariant
