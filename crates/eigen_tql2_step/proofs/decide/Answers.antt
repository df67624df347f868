use native.Mathlib.Omega.{arith}
use Rattle.eigen_tql2_step.specs.SkipSettledLaws.{closed_at}
use Rattle.std.specs.Prelude.{[]}
use Rattle.eigen_tql2_step.proofs.decide.Goals as goal

pub returns-then-undecided : goal.returns-then-undecided
returns-then-undecided c = λ v. rw (← c.undecided.ensures, c.if-undecided.true)

pub onward-requires : goal.onward-requires
onward-requires c = omega (arith, closed_at _ _ [] _ _ _ _ (c.close.ensures []))

pub returns-else-undecided : goal.returns-else-undecided
returns-else-undecided c = λ v. rw (← c.undecided.ensures, c.if-undecided.false, ← c.close.ensures v, c.onward.ensures)
