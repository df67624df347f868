use mathlib.Core.Path.{◌≡◌}
use Rattle.grid.specs.Loop.{upto}
use Rattle.eigen_tql2.specs.Sort.{sort_step}
use Rattle.eigen_tql2.proofs.sort.sort.Given as goal

abbrev pub invariant-loop-i : goal.invariant-loop-i
invariant-loop-i l = (l.v, l.d) ≡ upto (sort_step l.n) 0 l.i (l.initial.v, l.initial.d)
