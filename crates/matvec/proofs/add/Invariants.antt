use mathlib.Core.Path.{◌≡◌}
use lib.ListN.{set}
use Rattle.grid.specs.Loop.{upto}
use Rattle.grid.specs.Real.{at, ◌⊕◌, ◌⊗◌}
use Rattle.matvec.proofs.add.Given as goal

abbrev pub invariant-loop-i : goal.invariant-loop-i
invariant-loop-i l = l.w ≡ upto (λ i w. set w i (at w i ⊕ l.f ⊗ at l.u i)) 0 l.i l.initial.w
