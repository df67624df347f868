use Rattle.leaves.proofs.scan.All.{none_below}
use Rattle.leaves.proofs.scan.first_bad_lower.Goals as goal

pub returns-then-all_finite : goal.returns-then-all_finite
returns-then-all_finite c = none_below _ _ c.all_finite.ensures c.if-all_finite.true

pub returns : goal.returns
returns c = c.walk_lower.ensures
