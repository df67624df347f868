use native.Mathlib.Omega.{arith}
use Rattle.leaves.specs.ScanLaws.{room_of_lem}
use Rattle.leaves.specs.Both.{in_first, in_second}
use Rattle.leaves.proofs.scan.first_bad_of_both.Goals as goal

pub returns-in-Some : goal.returns-in-Some
returns-in-Some c = in_first c.args.d.now c.args.e.now c.first_bad.ensures c.in-Some.is

pub behind-requires : goal.behind-requires
behind-requires c = rw c.first_bad-in-None.ensures (room_of_lem _ _ _ (omega arith))

pub returns-in-None : goal.returns-in-None
returns-in-None c = in_second c.args.d.now c.args.e.now c.first_bad.ensures c.in-None.is c.first_bad-in-None.ensures c.behind.ensures
