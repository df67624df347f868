use mathlib.Core.Path.{◌∙◌}
use Rattle.gram_schmidt.specs.Gram.{norm}
use Rattle.gram_schmidt.proofs.norm.Goals as goal

pub returns : goal.returns
unfolding norm
returns c = c.root.ensures.value ∙ rw c.dot.ensures
