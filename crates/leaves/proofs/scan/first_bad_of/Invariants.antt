use mathlib.Core.Path.{◌≡◌}
use Prim.Native.Nat.{◌-◌, ◌*◌, ◌≤◌}
use Rattle.leaves.specs.Scan.{place_of}
use Rattle.leaves.specs.ScanLaws.{cell_at}
use Rattle.leaves.proofs.scan.Search.{Left}
use Rattle.leaves.proofs.scan.first_bad_of.Given as goal

abbrev pub invariant-loop-k : goal.invariant-loop-k
invariant-loop-k l = (l.k ≤ l.rows * l.cols) × (l.p ≡ place_of l.cols l.k) × Left (cell_at l.rows l.cols l.v) l.k (l.rows * l.cols)

abbrev pub decreases-loop-k : goal.decreases-loop-k
decreases-loop-k l = l.rows * l.cols - l.k
