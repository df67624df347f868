use native.Mathlib.Nat.{add-sub_cancel_left}
use Rattle.svd_jacobi_svd_tall.specs.Marks.{factors_bad}
use Rattle.svd_jacobi_svd_tall.proofs.marks.Marks.{factors_room, factors_first, factors_second}
use Rattle.svd_jacobi_svd_tall.proofs.marks.factors_bad.Goals as goal

pub returns-in-Some : goal.returns-in-Some
unfolding factors_bad
returns-in-Some c = factors_first c.args.rows c.args.cols c.args.w.now c.requires c.first_bad_cell.ensures c.in-Some.is

pub behind-requires : goal.behind-requires
behind-requires c = factors_room c.args.rows c.args.cols c.args.w.now c.requires _ (rw add-sub_cancel_left at c.first_bad_cell-in-None.ensures)

pub returns-in-None : goal.returns-in-None
unfolding factors_bad
returns-in-None c = factors_second c.args.rows c.args.cols c.args.w.now c.requires c.first_bad_cell.ensures c.in-None.is (rw add-sub_cancel_left at c.first_bad_cell-in-None.ensures) c.behind.ensures
