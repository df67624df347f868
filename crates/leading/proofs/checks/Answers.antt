use mathlib.Core.Path.{◌∙◌}
use borrow.Author.Tests.{lt-ltb, le-ltb}
use Rattle.answers.proofs.LengthsLaws.{two_lengths}
use Rattle.leading.specs.Leading.{checks}
use Rattle.leading.proofs.checks.Goals as goal

pub returns-then-n-gt-LARGEST : goal.returns-then-n-gt-LARGEST
unfolding checks
returns-then-n-gt-LARGEST c = rw (lt-ltb 256 _ c.if-n-gt-LARGEST.true)

pub returns-then-k-n : goal.returns-then-k-n
unfolding checks
returns-then-k-n c = rw (le-ltb 256 _ c.if-n-gt-LARGEST.false, lt-ltb _ _ c.if-k-n.true)

pub returns : goal.returns
unfolding checks
returns c = c.lengths.ensures ∙ two_lengths _ _ _ _ ∙ rw (le-ltb 256 _ c.if-n-gt-LARGEST.false, le-ltb _ _ c.if-k-n.false)
