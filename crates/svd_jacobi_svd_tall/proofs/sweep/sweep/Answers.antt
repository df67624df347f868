use mathlib.Core.Path.{◌≡◌, ◌∙◌, ap}
use mathlib.Core.Bool.{false}
use Prim.Native.Nat.{ℕ, ◌+◌, ◌-◌}
use native.Mathlib.Omega.{arith}
use borrow.Author.Rules.{rules}
use Rattle.grid.specs.Loop.{upto}
use Rattle.grid.specs.LoopLaws.{start}
use Rattle.svd_jacobi_svd_tall.specs.Sweep.{pairs_of, sweep}
use Rattle.svd_jacobi_svd_tall.proofs.sweep.TwoRows.{two_more, all_rows}
use Rattle.svd_jacobi_svd_tall.proofs.sweep.sweep.Goals as goal

pub loop-e-init : goal.loop-e-init
loop-e-init c = (omega arith, search rules, start _ _ _)

pub loop-e-preserved : goal.loop-e-preserved
loop-e-preserved c =
    let e : c.loop-e.e - 1 + 2 ≡ c.loop-e.e + 2 - 1 = omega (arith, c.loop-e.auto.e) in
    (omega arith, search rules, two_more _ _ _ _ c.loop-e.invariant.2 c.two_rows-changed.ensures ∙ ap (λ (k : ℕ). upto (pairs_of c.args.rows c.args.cols) 0 k (false, c.args.w.now)) e)

pub returns : goal.returns
unfolding sweep
returns c = all_rows _ _ _ _ c.loop-e.invariant.0 (omega arith) c.loop-e.invariant.2

pub returns-2 : goal.returns-2
unfolding sweep
returns-2 c = all_rows c.args.rows c.args.cols (c.loop-e.e - 1 + 2) _ (omega arith) (omega (arith, c.loop-e.auto.e)) (two_more _ _ _ _ c.loop-e.invariant.2 c.two_rows-changed.ensures)
