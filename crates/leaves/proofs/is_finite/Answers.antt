use Rattle.leaves.proofs.Less.{self_less}
use Rattle.leaves.proofs.is_finite.Goals as goal

pub returns : goal.returns
returns c = self_less c.args.x
