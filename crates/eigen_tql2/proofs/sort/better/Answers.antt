use mathlib.Core.Path.{◌≡◌}
use mathlib.Core.Bool.{true, false}
use lib.Ieee.{lt}
use Rattle.grid.specs.Real.{at}
use Rattle.eigen_tql2.proofs.sort.better.Goals as goal

pub returns-then-x-b : goal.returns-then-x-b
returns-then-x-b c = let less : lt (at c.args.d.now c.args.j) c.args.b.p ≡ true = c.if-x-b.true in rw less

pub returns-else-x-b : goal.returns-else-x-b
returns-else-x-b c = let not_less : lt (at c.args.d.now c.args.j) c.args.b.p ≡ false = c.if-x-b.false in rw not_less
