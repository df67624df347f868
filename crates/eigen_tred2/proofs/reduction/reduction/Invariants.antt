use mathlib.Core.Path.{◌≡◌}
use Prim.Native.Nat.{◌-◌}
use Rattle.grid.specs.Loop.{down}
use Rattle.eigen_tred2_definition.specs.Tred2.{householder}
use Rattle.eigen_tred2.proofs.reduction.reduction.Given as goal

-- the turn before stood at l.i
abbrev pub invariant-loop-i : goal.invariant-loop-i
invariant-loop-i l = down (householder l.n) (l.i - 1) (l.v, l.d, l.e) ≡ down (householder l.n) (l.n - 1) (l.initial.v, l.initial.d, l.initial.e)
