-- The loop keeps: what is left of the room, and where block i starts, are the room.
use Rattle.std.proofs.Common.{◌+◌, sym, arith}
use borrow.Author.Tests.{le-leb, lt-leb}
use Rattle.store_definition.specs.Store.{room_of, start_of}
use Rattle.store_definition.specs.StartLaws.{start_none, start_more, start_below}
use Rattle.store.specs.LoopLaws.{lengths_long, lengths_at}
use Rattle.store.proofs.loops.within.Goals as goal

pub loop-n-init : goal.loop-n-init
loop-n-init c = omega (arith, start_none c.args.list.now)

pub returns-then-n-left : goal.returns-then-n-left
returns-then-n-left c =
    let n = lengths_long c.args.list.now c.args.k c.requires in
    let e = lengths_at c.args.list.now c.args.k c.loop-n.n-index (omega arith) in
    sym (lt-leb (start_of c.args.list.now c.args.k) (room_of c.args.list.now) (omega (arith, start_more c.args.list.now c.loop-n.n-index (omega arith), start_below c.args.list.now (c.loop-n.n-index + 1) c.args.k (omega arith))))

pub loop-n-preserved : goal.loop-n-preserved
loop-n-preserved c =
    let n = lengths_long c.args.list.now c.args.k c.requires in
    let e = lengths_at c.args.list.now c.args.k c.loop-n.n-index (omega arith) in
    omega (arith, start_more c.args.list.now c.loop-n.n-index (omega arith))

pub returns : goal.returns
returns c =
    let n = lengths_long c.args.list.now c.args.k c.requires in
    sym (le-leb (start_of c.args.list.now c.args.k) (room_of c.args.list.now) (omega (arith, start_below c.args.list.now c.args.k c.loop-n.n-index (omega arith))))
