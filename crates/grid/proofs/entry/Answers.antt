use native.Mathlib.Omega.{arith}
use Rattle.grid.specs.CellLaws.{cell}
use Rattle.grid.proofs.entry.Goals as goal

pub overflow_mul-result : goal.overflow_mul-result
overflow_mul-result c = omega (arith, cell c.args.rows c.args.cols c.args.i c.args.j c.requires.0 c.requires.1)

pub overflow_add-result : goal.overflow_add-result
overflow_add-result c = omega (arith, cell c.args.rows c.args.cols c.args.i c.args.j c.requires.0 c.requires.1)

pub offset_bounds-a-i : goal.offset_bounds-a-i
offset_bounds-a-i c = omega (arith, cell c.args.rows c.args.cols c.args.i c.args.j c.requires.0 c.requires.1)

pub bounds-a-i : goal.bounds-a-i
bounds-a-i c = omega (arith, cell c.args.rows c.args.cols c.args.i c.args.j c.requires.0 c.requires.1)
