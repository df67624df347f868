use native.Mathlib.Omega.{arith}
use Rattle.grid.specs.CellLaws.{cell}
use Rattle.grid.proofs.put_entry.Goals as goal

pub overflow_mul-a : goal.overflow_mul-a
overflow_mul-a c = omega (arith, cell c.args.rows c.args.cols c.args.i c.args.j c.requires.0 c.requires.1)

pub overflow_add-a : goal.overflow_add-a
overflow_add-a c = omega (arith, cell c.args.rows c.args.cols c.args.i c.args.j c.requires.0 c.requires.1)

pub offset_bounds-a-i : goal.offset_bounds-a-i
offset_bounds-a-i c = omega (arith, cell c.args.rows c.args.cols c.args.i c.args.j c.requires.0 c.requires.1)

pub bounds-a-i : goal.bounds-a-i
bounds-a-i c = omega (arith, cell c.args.rows c.args.cols c.args.i c.args.j c.requires.0 c.requires.1)
