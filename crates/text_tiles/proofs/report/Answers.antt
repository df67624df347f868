use native.Mathlib.Omega.{arith}
use Rattle.text_tiles_definition.specs.ReportLaws.{report_fits}
use Rattle.text_tiles.proofs.report.Goals as goal

pub returns : goal.returns
returns c = record { out_after = c.write.ensures; upper_bound = report_fits c.args.s.tally c.args.out.now c.write.new.out c.write.result (omega arith) c.write.ensures }
