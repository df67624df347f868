use mathlib.Core.Path.{◌≡◌}
use Rattle.grid.specs.Loop.{upto}
use Rattle.eigen_tred2_definition.specs.Tred2.{accumulate}
use Rattle.eigen_tred2.proofs.accumulation.Given as goal

abbrev pub invariant-loop-i : goal.invariant-loop-i
invariant-loop-i l = (l.v, l.d) ≡ upto (accumulate l.n) 0 l.i (l.initial.v, l.initial.d)
