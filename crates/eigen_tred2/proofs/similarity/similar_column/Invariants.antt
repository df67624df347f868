use mathlib.Core.Path.{◌≡◌}
use Prim.Native.Nat.{◌+◌}
use Rattle.grid.specs.Loop.{upto}
use Rattle.eigen_tred2_definition.specs.Tred2Steps.{similar_step}
use Rattle.eigen_tred2.proofs.similarity.similar_column.Given as goal

abbrev pub invariant-loop-k : goal.invariant-loop-k
invariant-loop-k l = (l.g, l.e) ≡ upto (similar_step l.n l.j l.f l.v l.d) (l.j + 1) l.k (l.g0, l.initial.e)
