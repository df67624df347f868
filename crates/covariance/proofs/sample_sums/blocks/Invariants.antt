use Prim.Native.Nat.{◌*◌}
use Rattle.covariance.specs.Lifts.{Lifts}
use Rattle.covariance.proofs.sample_sums.blocks.Given as goal

abbrev pub invariant-loop-j : goal.invariant-loop-j
invariant-loop-j l = Lifts l.a l.b (l.j * 256) l.s
