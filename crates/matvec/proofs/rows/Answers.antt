use mathlib.Core.Path.{◌≡◌, ◌∙◌, ap}
use Prim.Native.Nat.{ℕ, ◌+◌}
use native.Mathlib.Omega.{arith}
use lib.Ieee.{Float}
use lib.ListN.{length}
use Rattle.grid.specs.LoopLaws.{start, next, done}
use Rattle.grid.specs.TableLaws.{turns, turns_none, turns_more, each, length_table}
use Rattle.matvec.specs.Rows.{row_step, put_rows}
use Rattle.matvec.proofs.rows.Goals as goal

pub loop-k-init : goal.loop-k-init
loop-k-init g c = start _ _ _

pub loop-k-preserved : goal.loop-k-preserved
loop-k-preserved g c = next _ _ _ _ (omega arith) c.loop-k.invariant (rw (← c.entry.ensures))

pub loop-j-init : goal.loop-j-init
loop-j-init g c = turns_none _ _

pub loop-j-preserved : goal.loop-j-preserved
unfolding turns
loop-j-preserved g c =
    let step : ℕ → ℕ → Float → Float = λ k. row_step c.args.n c.args.a.now c.args.v.now (c.args.i + k) in
    turns_more step _ _ c.loop-j.invariant
    (done _ _ {b = g.row.N} _ (omega arith) (omega arith) c.loop-k.invariant ∙ each (λ k. step k c.loop-j.j) _ _ (ap length c.loop-j.invariant ∙ length_table _ _))

pub returns : goal.returns
returns g c =
    let all : c.loop-j.j ≡ c.args.n = omega arith in
    let copied : c.copy_from_slice.new.self ≡ turns (λ k. row_step c.args.n c.args.a.now c.args.v.now (c.args.i + k)) g.row.N c.args.n =
    c.copy_from_slice.ensures.after ∙ c.loop-j.invariant ∙ ap (turns (λ k. row_step c.args.n c.args.a.now c.args.v.now (c.args.i + k)) g.row.N) all in
    put_rows c.args.n c.args.a.now c.args.v.now c.args.w.now c.args.i g.row.N (omega arith) copied
