use Rattle.std.proofs.Common.{arith}
use Rattle.root.proofs.side_by_side.Turns.{room}
use Rattle.root.proofs.side_by_side.Turns as turns
use Rattle.root.proofs.side_by_side.digits_pair.Goals as goal

pub loop-init : goal.loop-init
loop-init c = (rw c.new-first.ensures (turns.start _ c.requires.0), rw c.new-second.ensures (turns.start _ c.requires.1))

pub turn-first-requires : goal.turn-first-requires
turn-first-requires c = room _ _ _ c.loop.invariant.0 (omega arith)

pub turn-second-requires : goal.turn-second-requires
turn-second-requires c = room _ _ _ c.loop.invariant.1 (omega arith)

pub loop-preserved : goal.loop-preserved
loop-preserved c = (turns.again _ _ _ _ c.loop.invariant.0 (omega arith) (c.turn-first.ensures.down, (c.turn-first.ensures.pairs, (c.turn-first.ensures.remainder, c.turn-first.ensures.with_01))), turns.again _ _ _ _ c.loop.invariant.1 (omega arith) (c.turn-second.ensures.down, (c.turn-second.ensures.pairs, (c.turn-second.ensures.remainder, c.turn-second.ensures.with_01))))

pub returns : goal.returns
returns c = rw (turns.done _ _ _ _ c.loop.invariant.0 (omega arith) c.found.ensures, turns.done _ _ _ _ c.loop.invariant.1 (omega arith) c.found-2.ensures)
