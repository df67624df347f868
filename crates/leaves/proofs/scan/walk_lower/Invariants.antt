use mathlib.Core.Path.{◌≡◌}
use Prim.Native.Nat.{◌-◌, ◌≤◌}
use lib.ListN.{length}
use Rattle.leaves.specs.Scan.{place_of}
use Rattle.leaves.specs.ScanLaws.{lower_at}
use Rattle.leaves.proofs.scan.Search.{Left}
use Rattle.leaves.proofs.scan.walk_lower.Given as goal

abbrev pub invariant-loop-k : goal.invariant-loop-k
invariant-loop-k l = (l.k ≤ length l.a) × (l.p ≡ place_of l.n l.k) × Left (lower_at l.n l.a) l.k (length l.a)

abbrev pub decreases-loop-k : goal.decreases-loop-k
decreases-loop-k l = length l.a - l.k
