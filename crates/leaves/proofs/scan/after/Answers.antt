use borrow.Author.Tests.{eq-eqb, ne_eqb}
use Rattle.leaves.specs.ScanLaws.{after}
use Rattle.leaves.proofs.scan.after.Goals as goal

pub returns-then-p-n : goal.returns-then-p-n
unfolding after
returns-then-p-n c = rw (eq-eqb _ _ c.if-p-n.true)

pub returns : goal.returns
unfolding after
returns c = rw (ne_eqb _ _ c.if-p-n.false)
