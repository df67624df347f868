use mathlib.Core.Path.{sym, subst}
use Rattle.leaves.proofs.Sign.{negative, nought, positive}
use lib.Dec.{T}
use Rattle.leaves.proofs.magnitude.Goals as goal

pub returns-then-x : goal.returns-then-x
returns-then-x c = negative c.args.x c.if-x.true

pub returns-then-x-2 : goal.returns-then-x-2
returns-then-x-2 c = nought c.args.x (subst T (sym c.well_formed.0.1) tt) c.if-x-2.true

pub returns : goal.returns
returns c = positive c.args.x c.if-x.false c.if-x-2.false
