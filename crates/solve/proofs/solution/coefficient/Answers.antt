use mathlib.Core.Path.{◌≡◌}
use mathlib.Core.Bool.{true, false}
use lib.Ieee.{lt}
use Rattle.solve.specs.Solution.{coefficient}
use Rattle.solve.proofs.solution.coefficient.Goals as goal

pub returns-then-sv-tolerance : goal.returns-then-sv-tolerance
unfolding coefficient
returns-then-sv-tolerance c = let above : lt c.args.tolerance c.args.sv ≡ true = c.if-sv-tolerance.true in rw above

pub returns-else-sv-tolerance : goal.returns-else-sv-tolerance
unfolding coefficient
returns-else-sv-tolerance c = let not_above : lt c.args.tolerance c.args.sv ≡ false = c.if-sv-tolerance.false in rw not_above
