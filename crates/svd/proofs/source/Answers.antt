use native.Mathlib.Omega.{arith}
use borrow.Author.Tests.{lt-ltb, le-ltb}
use Rattle.svd.specs.Svd.{source}
use Rattle.svd_sort_svd_descending.specs.ResultSizes.{wide_longest, wide_least, tall_longest, tall_least}
use Rattle.svd.proofs.source.Goals as goal

pub entry-requires : goal.entry-requires
entry-requires c = omega (arith, wide_longest _ _ c.if-m-n.true, wide_least _ _ c.if-m-n.true)

pub returns-then-m-n : goal.returns-then-m-n
unfolding source
returns-then-m-n c = rw (lt-ltb _ _ c.if-m-n.true) c.entry.ensures

pub entry-requires-else-m-n : goal.entry-requires-else-m-n
entry-requires-else-m-n c = omega (arith, tall_longest _ _ c.if-m-n.false, tall_least _ _ c.if-m-n.false)

pub returns-else-m-n : goal.returns-else-m-n
unfolding source
returns-else-m-n c = rw (le-ltb _ _ c.if-m-n.false) c.entry-else-m-n.ensures
