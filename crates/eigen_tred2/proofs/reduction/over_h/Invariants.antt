use mathlib.Core.Path.{◌≡◌}
use Rattle.grid.specs.Loop.{upto}
use Rattle.eigen_tred2_definition.specs.Tred2Steps.{over_hStep}
use Rattle.grid.specs.Real.{zero64}
use Rattle.eigen_tred2.proofs.reduction.over_h.Given as goal

abbrev pub invariant-loop-j : goal.invariant-loop-j
invariant-loop-j l = (l.f, l.e) ≡ upto (over_hStep l.h l.d) 0 l.j (zero64, l.initial.e)
