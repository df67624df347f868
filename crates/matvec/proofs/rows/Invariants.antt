use mathlib.Core.Path.{◌≡◌}
use Prim.Native.Nat.{◌+◌}
use lib.ListN.{set}
use Rattle.grid.specs.Loop.{upto}
use Rattle.grid.specs.Real.{at}
use Rattle.grid.specs.TableLaws.{turns}
use Rattle.matvec.specs.Rows.{row_step}
use Rattle.matvec.proofs.rows.Given as goal

abbrev pub invariant-loop-j : goal.invariant-loop-j
invariant-loop-j g l = l.acc ≡ turns (λ k. row_step l.n l.a l.v (l.i + k)) g.row.N l.j

abbrev pub invariant-loop-k : goal.invariant-loop-k
invariant-loop-k g l = l.acc ≡ upto (λ k acc. set acc k (row_step l.n l.a l.v (l.i + k) l.j (at acc k))) 0 l.k l.initial.acc
