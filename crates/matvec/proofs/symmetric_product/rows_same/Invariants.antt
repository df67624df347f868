use Prim.Native.Nat.{ℕ, ◌<◌}
use Rattle.matvec.specs.Symmetry.{Fours}
use Rattle.matvec.proofs.symmetric_product.rows_same.Given as goal

abbrev pub invariant-loop-j : goal.invariant-loop-j
invariant-loop-j l = (k : ℕ) → k < l.j → Fours l.n l.a l.i k
