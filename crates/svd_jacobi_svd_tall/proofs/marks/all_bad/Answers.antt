use native.Mathlib.Nat.{add-sub_cancel_left}
use Rattle.svd_jacobi_svd_tall.specs.Marks.{factors_bad, all_bad}
use Rattle.svd_jacobi_svd_tall.proofs.marks.Marks.{all_room, all_first, all_second}
use Rattle.svd_jacobi_svd_tall.proofs.marks.all_bad.Goals as goal

pub returns-in-Some : goal.returns-in-Some
unfolding all_bad
returns-in-Some c = all_first c.args.rows c.args.cols c.args.w.now c.requires (rw add-sub_cancel_left at c.first_bad.ensures) c.in-Some.is

pub behind-requires : goal.behind-requires
unfolding factors_bad
behind-requires c = all_room c.args.rows c.args.cols c.args.w.now c.requires _ c.factors_bad.ensures

pub returns-in-None : goal.returns-in-None
unfolding factors_bad all_bad
returns-in-None c = all_second c.args.rows c.args.cols c.args.w.now c.requires (rw add-sub_cancel_left at c.first_bad.ensures) c.in-None.is c.factors_bad.ensures c.behind.ensures
