use Rattle.root.proofs.Cases.{above_zero}
use Rattle.root.proofs.positive.Goals as goal

pub returns : goal.returns
returns c = above_zero c.args.x
