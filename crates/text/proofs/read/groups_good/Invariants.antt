use Rattle.std.proofs.Common.{◌≡◌, true}
use Rattle.grid.specs.Loop.{every}
use Rattle.text.specs.Reading.{group_at}
use Rattle.text.proofs.read.groups_good.Given as goal

abbrev pub invariant-loop-k : goal.invariant-loop-k
invariant-loop-k l = every (group_at l.t l.n l.from) l.k ≡ true
