use Rattle.std.proofs.Common.{◌≡◌, ◌+◌}
use Rattle.store_definition.specs.Store.{room_of, start_of}
use Rattle.store.proofs.loops.within.Given as goal

abbrev pub invariant-loop-n : goal.invariant-loop-n
invariant-loop-n l = l.left + start_of l.list l.n-index ≡ room_of l.list
