use mathlib.Core.Path.{◌≡◌}
use Rattle.grid.specs.Loop.{upto}
use Rattle.grid.specs.Real.{zero64}
use Rattle.eigen_tred2_definition.specs.Tred2Steps.{scale_step}
use Rattle.eigen_tred2.proofs.householder.scale_of.Given as goal

abbrev pub invariant-loop-x : goal.invariant-loop-x
invariant-loop-x l = l.scale ≡ upto (scale_step l.d) 0 l.x-index zero64
