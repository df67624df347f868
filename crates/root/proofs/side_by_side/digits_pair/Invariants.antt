use Rattle.root.proofs.side_by_side.Turns.{After}
use Rattle.root.proofs.side_by_side.digits_pair.Given as goal

abbrev pub invariant-loop : goal.invariant-loop
invariant-loop l = After l.counter l.n l.first × After l.counter l.o l.second
