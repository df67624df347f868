use mathlib.Core.Path.{◌≡◌}
use mathlib.Core.List.{◌++◌}
use lib.ListN.{drop}
use Rattle.grid.specs.Loop.{upto}
use Rattle.grid.specs.Real.{zero64}
use Rattle.eigen_tred2_definition.specs.Tred2Steps.{over_scale_step}
use Rattle.eigen_tred2.proofs.householder.over_scale.Given as goal

-- of the whole of d: what the loop walks, and what stands behind it
abbrev pub invariant-loop-x : goal.invariant-loop-x
invariant-loop-x l = (l.h, l.x-items ++ drop l.i l.fn.d) ≡ upto (over_scale_step l.scale) 0 l.x-index (zero64, l.fn.d)
