use Rattle.std.proofs.Common.{◌≡◌}
use Rattle.lanczos_steps.specs.AgainstLaws.{passed}
use Rattle.lanczos_steps.proofs.reorthogonalise.past.Given as goal

abbrev pub invariant-loop-i : goal.invariant-loop-i
invariant-loop-i l = (l.p, l.w) ≡ passed l.n l.i l.q l.initial.w
