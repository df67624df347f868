use mathlib.Core.Path.{◌≡◌}
use Prim.Native.Nat.{◌-◌, ◌≤◌}
use lib.ListN.{length}
use Rattle.grid.specs.Loop.{upto}
use mathlib.Core.Bool.{true}
use Rattle.leaves.specs.FiniteLaws.{all_step}
use Rattle.leaves.proofs.scan.all_finite.Given as goal

abbrev pub invariant-loop-x : goal.invariant-loop-x
invariant-loop-x l = (l.x-index ≤ length l.d) × (l.all ≡ upto (all_step l.d) 0 l.x-index true)

abbrev pub decreases-loop-x : goal.decreases-loop-x
decreases-loop-x l = length l.d - l.x-index
