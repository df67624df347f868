use Rattle.std.proofs.Common.{refl, arith}
use Rattle.octets.proofs.StoreLaws.{floats_none, floats_more, floats_whole}
use Rattle.octets.proofs.floats.Goals as goal

pub loop-i-init : goal.loop-i-init
loop-i-init c = floats_none _ _

pub loop-i-preserved : goal.loop-i-preserved
loop-i-preserved c = floats_more c.args.t.now c.args.out.now c.loop-i.out _ c.loop-i.i _ _ c.word.ensures c.float.ensures c.loop-i.invariant refl

pub returns : goal.returns
returns c = floats_whole c.args.t.now c.args.out.now c.loop-i.out c.loop-i.i (omega arith) c.loop-i.invariant
