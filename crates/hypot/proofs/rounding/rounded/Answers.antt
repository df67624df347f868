use Rattle.std.proofs.Common.{◌^◌, lt-ltb, le-ltb}
use Rattle.hypot.specs.RoundingParts.{rounded}
use Rattle.hypot.proofs.rounding.rounded.Goals as goal

pub returns-then-s-lt18014398509481984 : goal.returns-then-s-lt18014398509481984
unfolding rounded
returns-then-s-lt18014398509481984 c = rw (lt-ltb c.args.s (2 ^ 54) c.if-s-lt18014398509481984.true) c.packed.ensures

pub returns-else-s-lt18014398509481984 : goal.returns-else-s-lt18014398509481984
unfolding rounded
returns-else-s-lt18014398509481984 c = rw (le-ltb c.args.s (2 ^ 54) c.if-s-lt18014398509481984.false) c.packed-else-s-lt18014398509481984.ensures
