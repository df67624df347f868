use mathlib.Core.Path.{◌≡◌, ◌∙◌, ap}
use Prim.Native.Nat.{ℕ, ◌+◌}
use lib.Ieee.{Float}
use Rattle.eigen_tred2_definition.specs.Tred2Steps.{column_dot_step}
use native.Mathlib.Omega.{arith}
use lib.ListN.{length}
use Rattle.grid.specs.LoopLaws.{start, next, done}
use Rattle.grid.specs.TableLaws.{turns, turns_none, turns_more, each, length_table}
use Rattle.eigen_tred2_definition.specs.Tred2.{column_dot}
use Rattle.eigen_tred2.specs.Columns.{dots}
use Rattle.eigen_tred2.proofs.turn_columns.dots.Goals as goal

pub loop-c-init : goal.loop-c-init
loop-c-init g c = start _ _ _

pub loop-c-preserved : goal.loop-c-preserved
loop-c-preserved g c = next _ _ _ _ (omega arith) c.loop-c.invariant (rw (← c.at-x.ensures, ← c.at.ensures))

pub loop-k-init : goal.loop-k-init
loop-k-init g c = turns_none _ _

pub loop-k-preserved : goal.loop-k-preserved
unfolding turns
loop-k-preserved g c =
    let step : ℕ → ℕ → Float → Float = λ i. column_dot_step c.args.n c.args.m (c.args.j + i) c.args.v.now in
    turns_more step _ _ c.loop-k.invariant
    (done _ _ {b = g.row.N} _ (omega arith) (omega arith) c.loop-c.invariant ∙ each (λ i. step i c.loop-k.k) _ _ (ap length c.loop-k.invariant ∙ length_table _ _))

pub returns : goal.returns
unfolding dots column_dot turns
returns g c =
    let all : c.loop-k.k ≡ c.args.m = omega arith in
    c.loop-k.invariant ∙ ap (turns (λ i. column_dot_step c.args.n c.args.m (c.args.j + i) c.args.v.now) g.row.N) all
