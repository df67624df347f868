use Rattle.std.proofs.Common.{◌∙◌, arith}
use Rattle.text.specs.Stores.{spelling_more, spelling_done, spelling_is}
use Rattle.text.proofs.write.spell.Goals as goal

pub loop-i-preserved : goal.loop-i-preserved
loop-i-preserved c = spelling_more c.loop-i.out c.args.at c.args.base c.loop-i.i c.loop-i.rest c.loop-i-test.true (c.put.ensures ∙ rw c.glyph.ensures) c.loop-i.invariant

pub returns : goal.returns
returns c = spelling_done c.loop-i.out c.args.at c.args.base c.loop-i.i c.loop-i.rest (omega arith) c.loop-i.invariant ∙ spelling_is c.args.out.now c.args.at c.args.base c.args.k c.args.n
