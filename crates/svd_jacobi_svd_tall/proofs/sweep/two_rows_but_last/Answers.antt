use mathlib.Core.Path.{◌∙◌, ap}
use native.Mathlib.Omega.{arith}
use borrow.Author.Rules.{rules}
use Rattle.svd_jacobi_svd_tall.specs.Sweep.{pair_done}
use Rattle.svd_jacobi_svd_tall.proofs.sweep.TwoRows.{begun, stepped, ended}
use Rattle.svd_jacobi_svd_tall.proofs.sweep.two_rows_but_last.Goals as goal

pub loop-q-init : goal.loop-q-init
loop-q-init c = (omega arith, omega arith, search rules, λ x e. begun _ _ _ x e)

pub loop-q-preserved : goal.loop-q-preserved
loop-q-preserved c = (omega arith, omega arith, search rules, λ x e. stepped _ _ _ _ x c.loop-q.invariant.0 (omega arith) (c.loop-q.invariant.3 x e) c.pair_two-changed.ensures)

pub returns : goal.returns
returns c = ended _ _ _ _ (omega arith) (omega arith) (c.loop-q.invariant.3 _ (c.pair-changed.ensures ∙ ap (pair_done _ _ _ _) c.pair-first.ensures))
