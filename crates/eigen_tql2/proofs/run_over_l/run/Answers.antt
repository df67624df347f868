use mathlib.Core.Path.{◌≡◌, sym}
use Prim.Native.Nat.{ℕ, ◌+◌, ◌≤◌}
use native.Mathlib.Omega.{arith}
use borrow.Author.Rules.{rules}
use Rattle.grid.specs.LoopLaws.{start, next, done}
use Rattle.eigen_tql2.specs.LStartEnd.{State, fresh}
use Rattle.eigen_tql2.specs.RunOverL.{turn, run}
use Rattle.eigen_tql2.specs.RunOverLBounds.{turn_count}
use Rattle.eigen_tql2.proofs.run_over_l.run.Goals as goal

grown : (n limit edition l : ℕ) (x y : State) → limit ≤ 60 → y ≡ turn n limit edition l x → y.0.count ≤ x.0.count + 60
grown n limit edition l x y h e = rw e (omega (arith, turn_count n limit edition l x))

pub loop-l-init : goal.loop-l-init
loop-l-init c = (omega arith, search rules, start _ _ _)

pub loop-l-preserved : goal.loop-l-preserved
loop-l-preserved c = (omega (arith, grown _ _ _ _ _ _ c.requires.1 c.turn-r.ensures), omega arith, next _ _ _ _ (omega arith) c.loop-l.invariant.2 c.turn-r.ensures)

pub returns : goal.returns
unfolding run
returns c = let e : c.default-r.result ≡ fresh = search rules in rw (sym e) (done _ _ _ (omega arith) (omega arith) c.loop-l.invariant.2)
