use Rattle.lanczos.specs.Checks.{size}
use Rattle.lanczos.proofs.checks.size.Goals as goal

pub returns : goal.returns
unfolding size
returns c = c.least.ensures
