use Rattle.std.proofs.Common.{◌-◌, length}
use Rattle.store.specs.BitLaws.{Seen}
use Rattle.store.proofs.loops.differ.Given as goal

abbrev pub invariant-loop-t : goal.invariant-loop-t
invariant-loop-t l = Seen l.s l.seen (length l.s - length l.yielded)
