use native.Mathlib.Omega.{arith}
use borrow.Author.Tests.{le-leb, lt-leb}
use Rattle.leaves.specs.Scan.{lower_of}
use Rattle.leaves.proofs.scan.lower_of.Goals as goal

pub returns-then-p : goal.returns-then-p
unfolding lower_of
returns-then-p c = rw (le-leb c.args.p.j c.args.p.i (omega arith))

pub returns-else-p : goal.returns-else-p
unfolding lower_of
returns-else-p c = rw (lt-leb c.args.p.j c.args.p.i (omega arith))
