use mathlib.Core.Path.{refl, ◌∙◌}
use native.Mathlib.Omega.{arith}
use Rattle.block_read.specs.CheckLaws.{size_most, no_refusal, sent_on, entries_here, entries_next, entries_done}
use Rattle.block_read.proofs.entries.Goals as goal

pub returns-in_err-entry : goal.returns-in_err-entry
returns-in_err-entry c = sent_on c.from_residual.result _ c.from_residual.ensures.1 ∙ entries_here c.args.t.now c.args.header.rows c.args.header.columns c.args.header.parts c.loop-i.i c.loop-i.last c.loop-i.off c.loop-i-test.true c.in_err-entry.ensures (no_refusal c.in_err-entry.field-0.0) c.loop-i.invariant.1

pub overflow_mul-off : goal.overflow_mul-off
overflow_mul-off c = omega (arith, c.size.ensures, size_most c.args.header.rows c.args.header.columns c.number-last.result c.args.header.high c.args.header.wide)

pub overflow_add-off : goal.overflow_add-off
overflow_add-off c = omega (arith, c.loop-i.invariant, c.size.ensures, size_most c.args.header.rows c.args.header.columns c.number-last.result c.args.header.high c.args.header.wide, c.args.header.few)

pub loop-i-preserved : goal.loop-i-preserved
loop-i-preserved c = (omega (arith, c.loop-i.invariant, c.size.ensures, size_most c.args.header.rows c.args.header.columns c.number-last.result c.args.header.high c.args.header.wide), entries_next c.args.t.now c.args.header.rows c.args.header.columns c.args.header.parts c.loop-i.i c.loop-i.last c.loop-i.off c.loop-i-test.true c.in_ok-entry.ensures refl c.number-last.ensures.value c.size.ensures c.loop-i.invariant.1)

pub returns : goal.returns
returns c = entries_done c.args.t.now c.args.header.rows c.args.header.columns c.args.header.parts c.loop-i.i c.loop-i.last c.loop-i.off c.loop-i-test.false c.end.ensures c.loop-i.invariant.1
