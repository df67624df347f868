use mathlib.Core.Path.{◌≡◌}
use lib.ListN.{set, length}
use Rattle.grid.specs.Loop.{upto}
use Rattle.grid.specs.Real.{zero64, ◌⊕◌, ◌⊗◌, at}
use Rattle.matvec.specs.Matvec.{added}
use Rattle.matvec.proofs.add_dot.Given as goal

abbrev pub invariant-loop-i : goal.invariant-loop-i
invariant-loop-i l = (l.w ≡ upto (λ i w. set w i (at w i ⊕ l.f ⊗ at l.u i)) 0 l.i l.initial.w) × (l.acc ≡ upto (λ row acc. acc ⊕ at (added (length l.initial.w) l.f l.u l.initial.w) row ⊗ at l.t row) 0 l.i zero64)
