use mathlib.Core.Path.{◌≡◌}
use Prim.Native.Nat.{◌*◌, ◌/◌}
use Rattle.grid.specs.Loop.{upto}
use Rattle.eigen_tred2_definition.specs.Tred2Steps.{similarity_step}
use Rattle.eigen_tred2.proofs.similarity.similarity.Given as goal

abbrev pub invariant-loop-q : goal.invariant-loop-q
invariant-loop-q l = (l.v, l.e) ≡ upto (similarity_step l.n l.i l.d) 0 (l.q * 2) (l.initial.v, l.initial.e)

abbrev pub invariant-loop-j : goal.invariant-loop-j
invariant-loop-j l = (l.v, l.e) ≡ upto (similarity_step l.n l.i l.d) (l.i / 2 * 2) l.j (l.initial.v, l.initial.e)
