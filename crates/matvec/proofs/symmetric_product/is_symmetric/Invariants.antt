use Prim.Native.Nat.{ℕ, ◌-◌, ◌<◌}
use Rattle.matvec.specs.Symmetry.{Row}
use Rattle.matvec.proofs.symmetric_product.is_symmetric.Given as goal

abbrev pub invariant-loop-i : goal.invariant-loop-i
invariant-loop-i l = (k : ℕ) → k < l.i → Row l.n l.a k

abbrev pub decreases-loop-i : goal.decreases-loop-i
decreases-loop-i l = l.n - l.i
