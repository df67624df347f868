use mathlib.Core.Path.{refl}
use native.Mathlib.Omega.{arith}
use Rattle.covariance.proofs.matrix_entries.Steps.{cell_row, begun, mirrored, goes, stops, ends}
use Rattle.answers.proofs.VerdictLaws.{passed_on, refuses}
use Rattle.covariance.specs.BandParts.{room}
use Rattle.covariance.proofs.matrix_entries.entries.Goals as goal

pub overflow_mul-k-end : goal.overflow_mul-k-end
overflow_mul-k-end c = omega (arith, room c.args.n c.args.n (omega arith) (omega arith))

pub loop-k-init : goal.loop-k-init
loop-k-init c = begun _ _ _ _

pub cell-requires : goal.cell-requires
cell-requires c = ((cell_row c.args.n c.loop-k.k (omega arith)).1, (cell_row c.args.n c.loop-k.k (omega arith)).2, omega arith, omega arith, omega arith, omega arith, c.requires.4, omega arith, mirrored _ _ _ c.loop-k.k c.loop-k.matrix (omega arith) c.loop-k.invariant)

pub returns-in_err-cell : goal.returns-in_err-cell
returns-in_err-cell c = rw (passed_on _ _ c.from_residual.ensures.1) (stops _ _ _ c.loop-k.k c.loop-k.matrix _ (omega arith) (omega arith) c.loop-k.invariant c.in_err-cell.ensures (refuses c.in_err-cell.field-0.0))

pub overflow_step-k : goal.overflow_step-k
overflow_step-k c = omega (arith, room c.args.n c.args.n (omega arith) (omega arith))

pub loop-k-smaller : goal.loop-k-smaller
loop-k-smaller c = omega (arith, room c.args.n c.args.n (omega arith) (omega arith))

pub loop-k-preserved : goal.loop-k-preserved
loop-k-preserved c = goes _ _ _ c.loop-k.k c.loop-k.matrix (omega arith) (omega arith) c.loop-k.invariant c.in_ok-cell.ensures refl

pub returns : goal.returns
returns c = (ends _ _ _ c.loop-k.k c.loop-k.matrix _ (omega arith) (omega arith) (omega arith) c.loop-k.invariant)
