use native.Mathlib.Omega.{arith}
use lib.ListN.{length}
use Rattle.grid.specs.Real.{at}
use Rattle.leaves.specs.Scan.{by_rows}
use Rattle.leaves.specs.ScanLaws.{room_of_lem}
use Rattle.leaves.specs.Both.{in_first, in_second}
use Rattle.eigen_tql2.specs.Finish.{mark2}
use Rattle.leaves.specs.FiniteLaws.{rows_fit}
use Rattle.eigen_tql2.proofs.finish.mark2.Goals as goal

pub returns-in-Some : goal.returns-in-Some
unfolding mark2
returns-in-Some c = in_first c.args.d.now (by_rows c.args.n c.args.v.now) c.first_bad.ensures c.in-Some.is

pub behind-requires : goal.behind-requires
behind-requires c = rw c.first_bad_cell.ensures (room_of_lem (length c.args.d.now) (length (by_rows c.args.n c.args.v.now)) (at (by_rows c.args.n c.args.v.now)) (omega (arith, rows_fit c.args.n c.args.v.now)))

pub returns-in-None : goal.returns-in-None
unfolding mark2
returns-in-None c = in_second c.args.d.now (by_rows c.args.n c.args.v.now) c.first_bad.ensures c.in-None.is c.first_bad_cell.ensures c.behind.ensures
