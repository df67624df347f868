use mathlib.Core.Path.{◌≡◌}
use Prim.Native.Nat.{◌+◌, ◌≤◌}
use Rattle.grid.specs.Loop.{upto}
use Rattle.eigen_tql2.specs.SortSteps.{better}
use Rattle.eigen_tql2.proofs.sort.least_from.Given as goal

abbrev pub invariant-loop-j : goal.invariant-loop-j
invariant-loop-j l = (l.i + 1 ≤ l.j) × (l.j ≤ l.n) × (l.b ≡ upto (better l.d) (l.i + 1) l.j l.initial.b)
