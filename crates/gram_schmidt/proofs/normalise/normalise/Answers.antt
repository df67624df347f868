use mathlib.Core.Path.{◌≡◌}
use mathlib.Core.Bool.{true, false}
use lib.Ieee.{lt}
use Rattle.grid.specs.Real.{epsilon}
use Rattle.gram_schmidt.specs.Unit.{normalised}
use Rattle.gram_schmidt.proofs.normalise.normalise.Goals as goal

pub returns-then-by : goal.returns-then-by
unfolding normalised
returns-then-by c = let above : lt epsilon c.args.by ≡ true = c.if-by.true in rw above c.over.ensures

pub returns-else-by : goal.returns-else-by
unfolding normalised
returns-else-by c = let not_above : lt epsilon c.args.by ≡ false = c.if-by.false in rw not_above c.fill.ensures
