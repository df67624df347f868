use mathlib.Core.Path.{◌∙◌, sym, ap}
use Prim.Native.Nat.{ℕ}
use native.Mathlib.Omega.{arith}
use mathlib.Core.List.{◌++◌}
use lib.ListN.{length-append}
use Rattle.leaves.specs.Scan.{by_rows}
use Rattle.leaves.specs.ScanLaws.{behind, room_of_lem}
use Rattle.eigen_tql2_pass.specs.Pass.{mark1}
use Rattle.leaves.specs.Both.{in_first, in_second}
use Rattle.leaves.specs.FiniteLaws.{rows_fit}
use Rattle.eigen_symmetric_eigen.specs.AfterTred2.{mark0}
use Rattle.eigen_symmetric_eigen.proofs.after_tred2.mark0.Goals as goal

pub returns-in-Some : goal.returns-in-Some
unfolding mark0 mark1
returns-in-Some c = in_first (c.args.d.now ++ c.args.e.now) (by_rows c.args.n c.args.v.now) c.mark1.ensures c.in-Some.is

pub behind-requires : goal.behind-requires
behind-requires c = rw c.first_bad_cell.ensures (room_of_lem _ _ _ (omega (arith, rows_fit c.args.n c.args.v.now)))

pub returns-in-None : goal.returns-in-None
unfolding mark0 mark1
returns-in-None c = in_second (c.args.d.now ++ c.args.e.now) (by_rows c.args.n c.args.v.now) c.mark1.ensures c.in-None.is c.first_bad_cell.ensures (c.behind.ensures ∙ ap (λ (k : ℕ). behind k c.first_bad_cell.result) (sym (length-append c.args.d.now c.args.e.now)))
