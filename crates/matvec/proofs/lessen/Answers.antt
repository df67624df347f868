use Rattle.matvec.specs.Matvec.{without}
use Rattle.matvec.proofs.lessen.Goals as goal

pub returns : goal.returns
unfolding without
returns c = rw (← rw c.requires at c.dot-proj.ensures) c.add.ensures
