use Rattle.std.proofs.Common.{refl, arith}
use Rattle.text.specs.Writing.{places}
use Rattle.text.specs.Stores.{places_here, places_next, places_done}
use Rattle.text.proofs.write.places.Goals as goal

pub loop-k-init : goal.loop-k-init
unfolding places
loop-k-init c = refl

pub returns-then-rest-eq0 : goal.returns-then-rest-eq0
returns-then-rest-eq0 c = places_here c.loop-k.k c.loop-k.rest c.loop-k-test.true c.if-rest-eq0.true c.loop-k.invariant

pub loop-k-preserved : goal.loop-k-preserved
loop-k-preserved c = places_next c.loop-k.k c.loop-k.rest c.loop-k-test.true c.if-rest-eq0.false c.loop-k.invariant

pub returns : goal.returns
returns c = places_done c.loop-k.k c.loop-k.rest (omega (arith, c.loop-k-test.false)) c.loop-k.invariant
