use native.Mathlib.Omega.{arith}
use Rattle.block_write.specs.PutLaws.{bytes_next, entries_next, entries_done}
use Rattle.block_write.proofs.put_entries.put_entries.Goals as goal

pub overflow_mul-next : goal.overflow_mul-next
overflow_mul-next c = omega (arith, bytes_next c.args.heads.now c.loop-i.i c.loop-i.next _ c.loop-i-test.true c.loop-i.invariant.within)

pub overflow_add-next : goal.overflow_add-next
overflow_add-next c = omega (arith, bytes_next c.args.heads.now c.loop-i.i c.loop-i.next _ c.loop-i-test.true c.loop-i.invariant.within)

pub loop-i-preserved : goal.loop-i-preserved
loop-i-preserved c = record {
  within = bytes_next c.args.heads.now c.loop-i.i c.loop-i.next _ c.loop-i-test.true c.loop-i.invariant.within;
  put = entries_next c.loop-i.out c.put_three.new.out c.args.heads.now c.loop-i.i c.loop-i.next c.loop-i-test.true c.put_three.ensures c.loop-i.invariant.put;
}

pub returns : goal.returns
returns c = entries_done c.loop-i.out c.args.heads.now c.loop-i.i _ c.loop-i.next c.loop-i-test.false c.loop-i.invariant.put
