use Rattle.leaves.proofs.Class.{same_class, other_class}
use Rattle.leaves.proofs.class_of.Goals as goal

pub returns-then-x : goal.returns-then-x
returns-then-x c = same_class c.args.x c.if-x.true

pub returns-else-x : goal.returns-else-x
returns-else-x c = other_class c.args.x c.if-x.false
