use mathlib.Core.Path.{◌≡◌}
use Prim.Native.Nat.{◌-◌}
use Rattle.grid.specs.Real.{Vec}
use Rattle.eigen_tql2_step.specs.SkipSettled.{skipped}
use Rattle.eigen_tql2_step.proofs.skip_settled.skip.Given as goal

abbrev pub invariant-loop-l : goal.invariant-loop-l
invariant-loop-l l = (l.r.l ≡ l.l) × ((v : Vec) → skipped l.n (l.n - l.r.l) (l.r, v, l.d, l.e) ≡ skipped l.n (l.n - l.fn.first.l) (l.fn.first, v, l.initial.d, l.initial.e))
