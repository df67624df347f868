use mathlib.Core.Path.{◌∙◌}
use native.Mathlib.Omega.{arith}
use lib.ListN.{length}
use native.Mathlib.Nat.{div-mul-le_self}
use Rattle.leaves.specs.ScanLaws.{by_rows_lem}
use Rattle.leaves.proofs.scan.All.{none_inside}
use Rattle.leaves.proofs.scan.Search.{no_column}
use Rattle.leaves.proofs.scan.first_bad_cell.Goals as goal

pub returns-then-all_finite : goal.returns-then-all_finite
returns-then-all_finite c = none_inside _ _ c.all_finite.ensures c.if-all_finite.true

pub returns-then-cols-eq0 : goal.returns-then-cols-eq0
returns-then-cols-eq0 c = no_column _ _ _ c.if-cols-eq0.true ∙ by_rows_lem c.args.cols c.args.v.now

pub first_bad_of-requires : goal.first_bad_of-requires
first_bad_of-requires c = omega (arith, div-mul-le_self (length c.args.v.now) c.args.cols)

pub returns : goal.returns
returns c = c.first_bad_of.ensures ∙ by_rows_lem c.args.cols c.args.v.now
