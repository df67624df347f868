use mathlib.Core.Path.{◌≡◌}
use Prim.Native.Nat.{◌+◌, ◌-◌, ◌<◌}
use Rattle.grid.specs.CellLaws.{Sized}
use Rattle.eigen_tql2.specs.RunOverL.{iterated}
use Rattle.eigen_tql2.proofs.run_over_l.iterate.Given as goal

abbrev pub invariant-loop : goal.invariant-loop
invariant-loop l = (l.r.stop ≡ 0 → l.r.l < l.r.m) × (l.r.m < l.n) × (l.r.passes ≡ l.counter) × (l.r.count ≡ l.fn.first.count + l.counter) × Sized l.n l.v l.d l.e × (iterated l.n (l.limit - l.counter) l.edition (l.r, l.v, l.d, l.e) ≡ iterated l.n l.limit l.edition (l.fn.first, l.initial.v, l.initial.d, l.initial.e))
