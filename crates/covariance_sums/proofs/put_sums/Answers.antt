use mathlib.Core.Path.{◌∙◌, ap}
use native.Mathlib.Omega.{arith}
use Rattle.grid.specs.TableLaws.{table_none, table_more, table_done}
use Rattle.covariance.specs.SampleSums.{total}
use Rattle.covariance_sums.specs.Sums.{sum_of, sums_of}
use lib.Ieee.{binary64, of_int}
use Rattle.covariance_sums.specs.SumsLaws.{sum_fits, sum_float}
use Rattle.covariance_sums.proofs.put_sums.Goals as goal

pub loop-j-init : goal.loop-j-init
loop-j-init c = table_none _

pub float_of-requires : goal.float_of-requires
float_of-requires c = sum_fits c.args.count c.total.result (omega arith) c.total.ensures.1

pub loop-j-preserved : goal.loop-j-preserved
loop-j-preserved c = table_more (λ x. of_int binary64 (sum_of c.args.samples.now c.args.count x)) c.loop-j.out c.loop-j.j (omega arith) c.loop-j.invariant (sum_float c.args.count c.total.result (omega arith) c.total.ensures.1 (c.total.ensures.0 ∙ ap (total c.args.count) c.band.ensures.value) c.float_of.ensures)

pub returns : goal.returns
unfolding sums_of
returns c = table_done _ c.loop-j.out (omega arith) (omega arith) (omega arith) c.loop-j.invariant
