use Rattle.answers.proofs.refuse.Goals as goal

pub returns : goal.returns
returns c = rw c.fill.ensures
