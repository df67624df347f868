use mathlib.Core.Path.{◌∙◌, sym}
use native.Mathlib.Omega.{arith}
use borrow.Author.Rules.{sfits_of}
use Rattle.grid.specs.CellLaws.{cell}
use Rattle.covariance.specs.StoredEntries.{stored}
use Rattle.covariance.proofs.matrix_entries.Entry.{mirror, held_over, held_float}
use Rattle.covariance.specs.BandParts.{room}
use Rattle.covariance.proofs.matrix_entries.cell.Goals as goal

pub returns-then-y-x : goal.returns-then-y-x
returns-then-y-x c = rw (c.put_entry.ensures, c.entry.ensures) (mirror _ _ _ _ _ _ c.if-y-x.true c.requires.8)

pub overflow_mul-result : goal.overflow_mul-result
overflow_mul-result c = omega (arith, cell c.args.n c.args.n c.args.x c.args.y c.requires.0 c.requires.1, cell c.args.n c.args.n c.args.y c.args.x c.requires.1 c.requires.0, room c.args.n c.args.n (omega arith) (omega arith))

pub overflow_add-result : goal.overflow_add-result
overflow_add-result c = omega (arith, cell c.args.n c.args.n c.args.x c.args.y c.requires.0 c.requires.1, cell c.args.n c.args.n c.args.y c.args.x c.requires.1 c.requires.0, room c.args.n c.args.n (omega arith) (omega arith))

pub returns-then-is_over : goal.returns-then-is_over
unfolding stored
returns-then-is_over c = rw (c.fill.ensures, held_over (sfits_of c.whole-z.type_inv) c.whole-z.ensures c.is_over.ensures c.if-is_over.true)

pub float_of-requires : goal.float_of-requires
float_of-requires c = sym c.is_over.ensures ∙ c.if-is_over.false

pub returns : goal.returns
unfolding stored
returns c = rw (c.put_entry-2.ensures, held_float (sfits_of c.whole-z.type_inv) c.whole-z.ensures c.float_of.ensures, held_over (sfits_of c.whole-z.type_inv) c.whole-z.ensures c.is_over.ensures c.if-is_over.false)
