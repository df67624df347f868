use mathlib.Core.Path.{◌∙◌}
use borrow.Author.Tests.{lt-ltb, le-ltb, eq-eqb, ne_eqb}
use Rattle.lanczos.specs.Checks.{checks}
use Rattle.lanczos.proofs.Sizes.{four_lengths}
use Rattle.std.proofs.Common.{ap, not}
use Rattle.lanczos.proofs.checks.checks.Goals as goal

pub returns-then-n-gt-LARGEST : goal.returns-then-n-gt-LARGEST
unfolding checks
returns-then-n-gt-LARGEST c = rw (lt-ltb 256 _ c.if-n-gt-LARGEST.true)

pub returns-then-not-limit_good : goal.returns-then-not-limit_good
unfolding checks
returns-then-not-limit_good c = rw (le-ltb 256 _ c.if-n-gt-LARGEST.false, ← c.limit_good.ensures, (ap not c.if-not-limit_good.true))

pub returns-then-not-edition_good : goal.returns-then-not-edition_good
unfolding checks
returns-then-not-edition_good c = rw (le-ltb 256 _ c.if-n-gt-LARGEST.false, ← c.limit_good.ensures, (ap not c.if-not-limit_good.false), ← c.edition_good.ensures, (ap not c.if-not-edition_good.true))

pub returns-then-n-eq0 : goal.returns-then-n-eq0
unfolding checks
returns-then-n-eq0 c = rw (le-ltb 256 _ c.if-n-gt-LARGEST.false, ← c.limit_good.ensures, (ap not c.if-not-limit_good.false), ← c.edition_good.ensures, (ap not c.if-not-edition_good.false), eq-eqb _ 0 c.if-n-eq0.true)

pub returns-then-k-n : goal.returns-then-k-n
unfolding checks
returns-then-k-n c = rw (le-ltb 256 _ c.if-n-gt-LARGEST.false, ← c.limit_good.ensures, (ap not c.if-not-limit_good.false), ← c.edition_good.ensures, (ap not c.if-not-edition_good.false), ne_eqb _ 0 c.if-n-eq0.false, lt-ltb _ _ c.if-k-n.true)

pub returns : goal.returns
unfolding checks
returns c = c.lengths.ensures ∙ four_lengths _ _ _ _ _ _ _ _ ∙ rw (le-ltb 256 _ c.if-n-gt-LARGEST.false, ← c.limit_good.ensures, (ap not c.if-not-limit_good.false), ← c.edition_good.ensures, (ap not c.if-not-edition_good.false), ne_eqb _ 0 c.if-n-eq0.false, le-ltb _ _ c.if-k-n.false, ← c.work_length.ensures)
