use Prim.Native.Nat.{◌+◌, ◌-◌, ◌*◌, ◌≤◌}
use Rattle.covariance.specs.Lifts.{Lifts}
use Rattle.covariance.proofs.sample_sums.pairs.Given as goal

abbrev pub invariant-loop-k : goal.invariant-loop-k
invariant-loop-k l = (l.from ≤ l.k) × (l.k ≤ l.to) × Lifts l.a l.b (l.k * 2) (l.s + (l.upper * 256 + l.lower)) × (l.upper ≤ (l.k - l.from) * 0xff_ff00) × (l.lower ≤ (l.k - l.from) * 255)
