use mathlib.Core.Path.{◌∙◌}
use Rattle.block_read.specs.CheckLaws.{no_refusal, sent_on}
use Rattle.block_write.specs.PutLaws.{heads_here, heads_next, heads_done}
use Rattle.block_write.proofs.admit.Goals as goal

pub returns-in_err-admit : goal.returns-in_err-admit
returns-in_err-admit c =
    sent_on c.from_residual.result _ c.from_residual.ensures.1
    ∙ heads_here _ _ c.loop-kind.last c.args.heads.now c.loop-kind.kind-index c.loop-kind-test.true c.in_err-admit.ensures (no_refusal c.in_err-admit.field-0.0) c.loop-kind.invariant

pub loop-kind-preserved : goal.loop-kind-preserved
loop-kind-preserved c = heads_next _ _ c.loop-kind.last c.args.heads.now c.loop-kind.kind-index c.loop-kind-test.true c.in_ok-admit.ensures c.loop-kind.invariant

pub returns : goal.returns
returns c = heads_done _ _ c.loop-kind.last c.args.heads.now c.loop-kind.kind-index c.loop-kind-test.false c.loop-kind.invariant
