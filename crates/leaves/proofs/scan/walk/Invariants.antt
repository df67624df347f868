use Prim.Native.Nat.{◌-◌, ◌≤◌}
use lib.ListN.{length}
use Rattle.grid.specs.Real.{at}
use Rattle.leaves.proofs.scan.Search.{Left}
use Rattle.leaves.proofs.scan.walk.Given as goal

abbrev pub invariant-loop-k : goal.invariant-loop-k
invariant-loop-k l = (l.k ≤ length l.d) × Left (at l.d) l.k (length l.d)

abbrev pub decreases-loop-k : goal.decreases-loop-k
decreases-loop-k l = length l.d - l.k
