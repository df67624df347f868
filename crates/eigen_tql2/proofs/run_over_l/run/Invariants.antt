use mathlib.Core.Path.{◌≡◌}
use Prim.Native.Nat.{◌*◌, ◌≤◌}
use Rattle.grid.specs.Loop.{upto}
use Rattle.grid.specs.CellLaws.{Sized}
use Rattle.eigen_tql2.specs.RunOverL.{turn}
use Rattle.eigen_tql2.proofs.run_over_l.run.Given as goal

abbrev pub invariant-loop-l : goal.invariant-loop-l
invariant-loop-l l = (l.r.count ≤ l.l * 60) × Sized l.n l.v l.d l.e × ((l.r, l.v, l.d, l.e) ≡ upto (turn l.n l.limit l.edition) 0 l.l (l.initial.r, l.initial.v, l.initial.d, l.initial.e))
