use mathlib.Core.Path.{◌≡◌}
use Rattle.leaves.specs.Leaf.{is_finite}
use Rattle.gram_schmidt.specs.Unit.{finished}
use Rattle.gram_schmidt.proofs.normalise.finish.Goals as goal

pub returns-then-is_finite : goal.returns-then-is_finite
unfolding finished
returns-then-is_finite c = let looked : c.is_finite.result ≡ is_finite c.args.by = c.is_finite.ensures in rw (← looked, c.if-is_finite.true, ← rw c.requires.2 at c.normalise.ensures, ← c.put_column.ensures, c.done.ensures)

pub returns : goal.returns
unfolding finished
returns c = let looked : c.is_finite.result ≡ is_finite c.args.by = c.is_finite.ensures in rw (← looked, c.if-is_finite.false, ← c.class_of.ensures, ← c.answered.ensures) c.refuse.ensures
