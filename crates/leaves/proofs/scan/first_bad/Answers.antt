use Rattle.leaves.proofs.scan.All.{none}
use Rattle.leaves.proofs.scan.first_bad.Goals as goal

pub returns-then-all_finite : goal.returns-then-all_finite
returns-then-all_finite c = none _ c.all_finite.ensures c.if-all_finite.true

pub returns : goal.returns
returns c = c.walk.ensures
