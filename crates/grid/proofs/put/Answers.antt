use native.Mathlib.Omega.{arith}
use Rattle.grid.specs.CellLaws.{cell}
use Rattle.grid.proofs.put.Goals as goal

pub overflow_mul-v : goal.overflow_mul-v
overflow_mul-v c = omega (arith, cell c.args.cols c.args.rows c.args.j c.args.i c.requires.1 c.requires.0)

pub overflow_add-v : goal.overflow_add-v
overflow_add-v c = omega (arith, cell c.args.cols c.args.rows c.args.j c.args.i c.requires.1 c.requires.0)

pub offset_bounds-v-j : goal.offset_bounds-v-j
offset_bounds-v-j c = omega (arith, cell c.args.cols c.args.rows c.args.j c.args.i c.requires.1 c.requires.0)

pub bounds-v-j : goal.bounds-v-j
bounds-v-j c = omega (arith, cell c.args.cols c.args.rows c.args.j c.args.i c.requires.1 c.requires.0)
