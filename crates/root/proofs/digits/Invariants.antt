use Rattle.std.proofs.Common.{◌<◌}
use Rattle.root.proofs.School.{Under, Ready}
use Rattle.root.proofs.digits.Given as goal

abbrev pub invariant-loop : goal.invariant-loop
invariant-loop l = Under l.k l.counter l.n l.fn.from l.down l.pairs l.remainder l.with_01 l.moved_up l.after_0 × (l.counter < l.k → Ready l.down l.remainder l.with_01 l.moved_up l.after_0)
