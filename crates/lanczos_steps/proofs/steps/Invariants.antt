use Rattle.std.proofs.Common.{◌≡◌, true}
use Rattle.grid.specs.Loop.{upto}
use Rattle.answers.specs.Answers as Answers
use Rattle.matvec.specs.Symmetry.{Symmetric}
use Rattle.lanczos_steps.specs.StepEnd.{went}
use Rattle.lanczos_steps.specs.KrylovLaws.{step_if_on}
use Rattle.lanczos_steps.proofs.steps.Given as goal

abbrev pub invariant-loop-j : goal.invariant-loop-j
invariant-loop-j l = (l.symmetric ≡ true → Symmetric l.n l.a) × ((went true (Answers.done 0) l.j, l.q, l.t.alphas, l.t.betas, l.v) ≡ upto (step_if_on l.n l.a) 0 l.j (went true (Answers.done 0) 0, l.initial.q, l.initial.t.alphas, l.initial.t.betas, l.initial.v))
