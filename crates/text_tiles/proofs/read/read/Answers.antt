use Rattle.std.proofs.Common.{◌∙◌, ◌+◌, sym, ap, drop}
use Rattle.text_tiles_definition.specs.declared.Series.{Series}
use Rattle.text_tiles_definition.specs.Lines.{run}
use Rattle.text_tiles_definition.proofs.StepLaws.{run_more, run_done}
use Rattle.text_tiles.proofs.read.read.Goals as goal

pub loop-b-preserved : goal.loop-b-preserved
loop-b-preserved c = ap (λ (y : Series). run y (drop (c.loop-b.b-index + 1) c.args.t.now)) c.step.ensures ∙ run_more c.loop-b.x c.args.t.now c.loop-b.b-index c.loop-b-test.true ∙ c.loop-b.invariant

pub returns : goal.returns
returns c = sym (run_done c.loop-b.x c.args.t.now c.loop-b.b-index c.loop-b-test.false) ∙ c.loop-b.invariant
