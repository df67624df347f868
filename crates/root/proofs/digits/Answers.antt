use Rattle.std.proofs.Common.{arith}
use Rattle.root.proofs.School.{start, again, done, ready}
use Rattle.root.proofs.digits.Goals as goal

pub loop-init : goal.loop-init
loop-init c = let u = start c.args.k c.args.n c.args.from c.requires.0 c.requires.1 in
    (u, λ h. ready _ _ _ _ _ _ _ _ _ _ u h c.requires.2)

pub overflow_mul-with_01-in-loop : goal.overflow_mul-with_01-in-loop
overflow_mul-with_01-in-loop c = omega (arith, c.loop.invariant.1 (omega arith))

pub overflow_add-with_01-in-loop : goal.overflow_add-with_01-in-loop
overflow_add-with_01-in-loop c = omega (arith, c.loop.invariant.1 (omega arith))

pub overflow_mul-moved_up-in-loop : goal.overflow_mul-moved_up-in-loop
overflow_mul-moved_up-in-loop c = omega (arith, c.loop.invariant.1 (omega arith), c.chosen-with_01.ensures)

pub overflow_mul-after_0-in-loop : goal.overflow_mul-after_0-in-loop
overflow_mul-after_0-in-loop c = omega (arith, c.loop.invariant.1 (omega arith), c.chosen-with_01.ensures)

pub overflow_sub-after_0 : goal.overflow_sub-after_0
overflow_sub-after_0 c = omega (arith, c.loop.invariant.1 (omega arith), c.chosen-with_01.ensures)

pub overflow_mul-remainder-in-loop : goal.overflow_mul-remainder-in-loop
overflow_mul-remainder-in-loop c = omega (arith, c.loop.invariant.1 (omega arith))

pub overflow_add-remainder-in-loop : goal.overflow_add-remainder-in-loop
overflow_add-remainder-in-loop c = omega (arith, c.loop.invariant.1 (omega arith))

pub overflow_sub-remainder : goal.overflow_sub-remainder
overflow_sub-remainder c = omega (arith, c.loop.invariant.1 (omega arith), c.chosen-off.ensures)

pub loop-preserved : goal.loop-preserved
loop-preserved c = let u = again _ _ _ _ _ _ _ _ _ _ _ _ c.loop.invariant.0 (omega arith) c.chosen-off.ensures c.chosen-with_01.ensures in
    (u, λ h. ready _ _ _ _ _ _ _ _ _ _ u h c.requires.2)

pub returns : goal.returns
returns c = done _ _ _ _ _ _ _ _ _ _ c.loop.invariant.0 (omega arith)
