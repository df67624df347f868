use Rattle.lanczos_steps.specs.Krylov.{step}
use Rattle.lanczos_steps.proofs.Loop.{class_some}
use borrow.Author.Tests.{not-true, not-false}
use Rattle.std.proofs.Common.{◌≡◌, length, arith, ap, not}
use Rattle.lanczos_steps.proofs.step.Goals as goal

pub returns-then-not-is_finite : goal.returns-then-not-is_finite
unfolding step
returns-then-not-is_finite c =
    let long : length c.product.new.w ≡ c.args.n = omega arith in
    rw (← c.product.ensures, ← rw long at c.dot-alpha.ensures, ← c.is_finite.ensures, not-true c.is_finite.result (ap not c.if-not-is_finite.true), class_some _, ← c.class_of.ensures, ← c.answered.ensures)

pub returns : goal.returns
unfolding step
returns c =
    let long : length c.product.new.w ≡ c.args.n = omega arith in
    rw (← c.product.ensures, ← rw long at c.dot-alpha.ensures, ← c.is_finite.ensures, not-false c.is_finite.result (ap not c.if-not-is_finite.false), ← c.recur.ensures, ← c.twice.ensures) c.keep.ensures
