use native.Mathlib.Omega.{arith}
use Rattle.grid.specs.CellLaws.{cell}
use Rattle.grid.proofs.at.Goals as goal

pub overflow_mul-result : goal.overflow_mul-result
overflow_mul-result c = omega (arith, cell c.args.cols c.args.rows c.args.j c.args.i c.requires.1 c.requires.0)

pub overflow_add-result : goal.overflow_add-result
overflow_add-result c = omega (arith, cell c.args.cols c.args.rows c.args.j c.args.i c.requires.1 c.requires.0)

pub offset_bounds-v-j : goal.offset_bounds-v-j
offset_bounds-v-j c = omega (arith, cell c.args.cols c.args.rows c.args.j c.args.i c.requires.1 c.requires.0)

pub bounds-v-j : goal.bounds-v-j
bounds-v-j c = omega (arith, cell c.args.cols c.args.rows c.args.j c.args.i c.requires.1 c.requires.0)
