use mathlib.Core.Path.{◌∙◌}
use native.Mathlib.Omega.{arith}
use borrow.Author.Tests.{lt-ltb, le-ltb}
use Rattle.answers.specs.AnswersLaws.{product_le}
use Rattle.answers.proofs.LengthsLaws.{two_lengths}
use Rattle.qr_q.specs.QrQ.{checks}
use Rattle.qr_q.proofs.checks.Goals as goal
use Rattle.qr_q.proofs.checks.Goals.{then-m-gt-LARGEST-via-then-m-gt-LARGEST, then-m-gt-LARGEST-via-else-m-gt-LARGEST+then-k-gt-LARGEST}

pub returns-then-m-gt-LARGEST : goal.returns-then-m-gt-LARGEST
unfolding checks
returns-then-m-gt-LARGEST c = elim c.then-m-gt-LARGEST.branch [
  | then-m-gt-LARGEST-via-then-m-gt-LARGEST w ↦ rw (lt-ltb 256 _ w.if-m-gt-LARGEST.true)
  | then-m-gt-LARGEST-via-else-m-gt-LARGEST+then-k-gt-LARGEST w ↦ rw (le-ltb 256 _ w.if-m-gt-LARGEST.false, lt-ltb 256 _ w.if-k-gt-LARGEST.true)
]

pub overflow_mul-m : goal.overflow_mul-m
overflow_mul-m c = omega (arith, product_le c.args.m c.args.k c.if-m-gt-LARGEST.false c.if-k-gt-LARGEST.false)

pub overflow_mul-m-2 : goal.overflow_mul-m-2
overflow_mul-m-2 c = omega (arith, product_le c.args.m c.args.k c.if-m-gt-LARGEST.false c.if-k-gt-LARGEST.false)

pub returns : goal.returns
unfolding checks
returns c = c.lengths.ensures ∙ two_lengths _ _ _ _ ∙ rw (le-ltb 256 _ c.if-m-gt-LARGEST.false, le-ltb 256 _ c.if-k-gt-LARGEST.false)
