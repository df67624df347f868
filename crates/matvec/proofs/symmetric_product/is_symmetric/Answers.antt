use mathlib.Core.Bool.{Bool, true}
use mathlib.Core.Path.{◌≡◌}
use mathlib.Core.Logic.{◌↔◌}
use Prim.Native.Nat.{ℕ, ◌+◌, ◌-◌, ◌<◌, ◌≤◌}
use native.Mathlib.Omega.{arith}
use Rattle.grid.specs.Real.{Vec}
use Rattle.matvec.specs.Symmetry.{Row, Symmetric, Fours, symmetric_of, four_rows, symmetric_fours}
use borrow.Author.Tests.{not-false}
use Rattle.std.proofs.Common.{ap, not}
use Rattle.matvec.proofs.symmetric_product.is_symmetric.Goals as goal
use Rattle.matvec.proofs.symmetric_product.is_symmetric.Goals.{else-loop-i-test, then-loop-i-test+else-not-rows_same+else-i-end-i-gt4}

pub loop-i-preserved : goal.loop-i-preserved
loop-i-preserved c = four_rows c.args.n c.args.a.now c.loop-i.i c.loop-i.i (omega arith) c.loop-i.invariant (c.rows_same.ensures.0 (not-false c.rows_same.result (ap not c.if-not-rows_same.false)))

-- the last four rows, behind all others
last : (n : ℕ) (a : Vec) (i : ℕ) (p : Bool) → 4 ≤ n → n ≤ i + 4 → ((k : ℕ) → k < i → Row n a k) → (p ≡ true) ↔ ((j : ℕ) → j < n - 4 + 3 → Fours n a (n - 4) j)
    → (p ≡ true) ↔ ((4 ≤ n) × Symmetric n a)
last n a i p h l rows e = (
  λ t. (h, symmetric_of n a (λ k m. four_rows n a i (n - 4) (omega arith) rows (e.0 t) k (omega arith))),
  λ s. e.1 (symmetric_fours n a (n - 4) (omega arith) s.1),
)

pub returns : goal.returns
returns c = elim c.loop-i-test.branch [
  | else-loop-i-test w ↦ last c.args.n c.args.a.now c.loop-i.i c.rows_same-2.result (omega arith) (omega (arith, w.loop-i-test.false)) c.loop-i.invariant c.rows_same-2.ensures
  | then-loop-i-test+else-not-rows_same+else-i-end-i-gt4 w ↦
      let rows : (k : ℕ) → k < c.loop-i.i + 4 → Row c.args.n c.args.a.now k =
      four_rows c.args.n c.args.a.now c.loop-i.i c.loop-i.i (omega arith) c.loop-i.invariant (w.rows_same.ensures.0 (not-false w.rows_same.result (ap not w.if-not-rows_same.false))) in
      last c.args.n c.args.a.now (c.loop-i.i + 4) c.rows_same-2.result (omega arith) (omega (arith, w)) rows c.rows_same-2.ensures
]
