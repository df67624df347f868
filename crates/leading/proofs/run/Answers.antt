use Prim.Native.Nat.{◌-◌}
use native.Mathlib.Omega.{arith}
use lib.ListN.{length, drop, length-drop}
use lib.Seq.{take_all}
use Rattle.leading.specs.Leading.{led}
use Rattle.leading.proofs.run.Goals as goal

pub returns : goal.returns
unfolding led
returns c = rw (c.done.ensures, c.values.ensures, c.vectors.ensures, take_all (length c.args.v.now - c.args.n) (drop c.args.n c.args.v.now) (omega (arith, length-drop c.args.n c.args.v.now)))
