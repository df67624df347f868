use mathlib.Core.Path.{◌≡◌}
use Rattle.grid.specs.Loop.{upto}
use Rattle.solve.specs.PseudoInverseLaws.{dot_step}
use Rattle.grid.specs.Real.{zero64}
use Rattle.solve.proofs.pseudo_inverse_rows.dot.Given as goal

abbrev pub invariant-loop-k : goal.invariant-loop-k
invariant-loop-k l = l.acc ≡ upto (dot_step l.r l.w l.u l.i) 0 l.k zero64
