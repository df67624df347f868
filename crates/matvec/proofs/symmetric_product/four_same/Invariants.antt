use mathlib.Core.Bool.{true}
use mathlib.Core.Path.{◌≡◌}
use mathlib.Core.Logic.{◌↔◌}
use Prim.Native.Nat.{ℕ, ◌+◌, ◌<◌}
use Rattle.grid.specs.Cell.{entry}
use Rattle.matvec.proofs.symmetric_product.four_same.Given as goal

abbrev pub invariant-loop-k : goal.invariant-loop-k
invariant-loop-k l = (l.all ≡ true) ↔ ((k : ℕ) → k < l.k → entry l.a l.n (l.i + k) l.j ≡ entry l.a l.n l.j (l.i + k))
