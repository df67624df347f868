use Prim.Native.Nat.{◌+◌, ◌*◌}
use native.Mathlib.Omega.{arith}
use borrow.Author.Tests.{ne_eqb}
use Rattle.block_read.specs.CheckLaws.{opened}
use Rattle.octets.specs.Bytes.{num}
use Rattle.block_read.specs.LookupLaws.{place_here, place_next, place_none, offset_above}
use Rattle.block_read.proofs.lookup.place.Goals as goal

pub number-requires : goal.number-requires
number-requires c = omega (arith, opened c.args.t.now c.requires.0, c.requires.1, c.loop-i-test.true)

pub number-requires-then-number-kind : goal.number-requires-then-number-kind
number-requires-then-number-kind c = omega (arith, opened c.args.t.now c.requires.0, c.requires.1, c.loop-i-test.true)

pub returns-then-number-kind : goal.returns-then-number-kind
returns-then-number-kind c =
    let t = c.args.t.now in
    let above = offset_above t (num 4 t 0) (num 4 t 4) (num 4 t 8) 12 0 (12 + 12 * num 4 t 8) c.loop-i.i (opened t c.requires.0).rest (omega arith) (omega (arith, c.loop-i-test.true, c.requires.1)) in
    rw (← place_here t c.args.header.parts c.loop-i.i c.args.kind c.loop-i-test.true c.number.ensures.value c.if-number-kind.true c.number-then-number-kind.ensures.value c.loop-i.invariant, ne_eqb c.number-then-number-kind.result 0 (λ e. omega (arith, above, e, c.number-then-number-kind.ensures.value)))

pub loop-i-preserved : goal.loop-i-preserved
loop-i-preserved c = place_next c.args.t.now c.args.header.parts c.loop-i.i c.args.kind c.loop-i-test.true c.number.ensures.value c.if-number-kind.false c.loop-i.invariant

pub returns : goal.returns
returns c = rw (← place_none c.args.t.now c.args.header.parts c.loop-i.i c.args.kind c.loop-i-test.false c.loop-i.invariant)
