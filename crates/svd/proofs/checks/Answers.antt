use mathlib.Core.Path.{◌∙◌}
use borrow.Author.Tests.{lt-ltb, le-ltb}
use Rattle.answers.proofs.LengthsLaws.{three_lengths}
use Rattle.svd.specs.Svd.{checks}
use Rattle.svd.proofs.checks.Goals as goal
use Rattle.svd.proofs.checks.Goals.{then-m-gt-LARGEST-via-then-m-gt-LARGEST, then-m-gt-LARGEST-via-else-m-gt-LARGEST+then-n-gt-LARGEST}

pub returns-then-m-gt-LARGEST : goal.returns-then-m-gt-LARGEST
unfolding checks
returns-then-m-gt-LARGEST c = elim c.then-m-gt-LARGEST.branch [
  | then-m-gt-LARGEST-via-then-m-gt-LARGEST w ↦ rw (lt-ltb 256 _ w.if-m-gt-LARGEST.true)
  | then-m-gt-LARGEST-via-else-m-gt-LARGEST+then-n-gt-LARGEST w ↦ rw (le-ltb 256 _ w.if-m-gt-LARGEST.false, lt-ltb 256 _ w.if-n-gt-LARGEST.true)
]

pub returns-then-not-limit_good : goal.returns-then-not-limit_good
unfolding checks
returns-then-not-limit_good c = rw (le-ltb 256 c.args.m c.if-m-gt-LARGEST.false, le-ltb 256 c.args.n c.if-n-gt-LARGEST.false, ← c.limit_good.ensures, c.if-not-limit_good.true)

pub returns : goal.returns
unfolding checks
returns c =
    c.lengths.ensures
    ∙ three_lengths _ _ _ _ _ _
    ∙ rw (le-ltb 256 c.args.m c.if-m-gt-LARGEST.false, le-ltb 256 c.args.n c.if-n-gt-LARGEST.false, ← c.limit_good.ensures, c.if-not-limit_good.false, ← c.decomposition_length-result.ensures, ← c.work_length.ensures)
