use native.Mathlib.Omega.{arith}
use Rattle.lanczos.specs.Checks.{work_length}
use Rattle.lanczos.specs.SizesLaws.{sized}
use Rattle.lanczos.proofs.checks.work_length.Goals as goal

pub overflow_mul-result : goal.overflow_mul-result
overflow_mul-result c = omega (arith, sized c.args.n c.args.k c.size-s.result c.requires.0 c.size-s.ensures)

pub overflow_add-result : goal.overflow_add-result
overflow_add-result c = omega (arith, sized c.args.n c.args.k c.size-s.result c.requires.0 c.size-s.ensures)

pub overflow_mul-result-3 : goal.overflow_mul-result-3
overflow_mul-result-3 c = omega (arith, sized c.args.n c.args.k c.size-s.result c.requires.0 c.size-s.ensures)

pub overflow_mul-result-4 : goal.overflow_mul-result-4
overflow_mul-result-4 c = omega (arith, sized c.args.n c.args.k c.size-s.result c.requires.0 c.size-s.ensures)

pub overflow_add-result-2 : goal.overflow_add-result-2
overflow_add-result-2 c = omega (arith, sized c.args.n c.args.k c.size-s.result c.requires.0 c.size-s.ensures)

pub overflow_mul-result-5 : goal.overflow_mul-result-5
overflow_mul-result-5 c = omega (arith, sized c.args.n c.args.k c.size-s.result c.requires.0 c.size-s.ensures)

pub overflow_add-result-3 : goal.overflow_add-result-3
overflow_add-result-3 c = omega (arith, sized c.args.n c.args.k c.size-s.result c.requires.0 c.size-s.ensures)

pub returns : goal.returns
unfolding work_length
returns c = rw c.size-s.ensures
