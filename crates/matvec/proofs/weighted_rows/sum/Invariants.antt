use mathlib.Core.Path.{◌≡◌}
use Prim.Native.Nat.{◌-◌, ◌≤◌}
use Rattle.grid.specs.TableLaws.{turns}
use Rattle.matvec.specs.Strips.{column_step}
use Rattle.matvec.proofs.weighted_rows.sum.Given as goal

abbrev pub invariant-loop-j : goal.invariant-loop-j
invariant-loop-j l = (l.j ≤ l.m) × (l.w ≡ turns (column_step l.n l.a l.v) l.n l.j)

abbrev pub decreases-loop-j : goal.decreases-loop-j
decreases-loop-j l = l.m - l.j
