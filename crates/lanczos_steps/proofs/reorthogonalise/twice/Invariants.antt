use Rattle.std.proofs.Common.{◌≡◌}
use Rattle.grid.specs.Loop.{upto}
use Rattle.lanczos_steps.specs.AgainstLaws.{against_all}
use Rattle.lanczos_steps.proofs.reorthogonalise.twice.Given as goal

abbrev pub invariant-loop-p : goal.invariant-loop-p
invariant-loop-p l = l.w ≡ upto (λ p. against_all l.n l.j l.q l.v) 0 l.p l.initial.w
