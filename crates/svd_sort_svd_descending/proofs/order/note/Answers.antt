use Prim.Native.Nat.{ℕ, ◌+◌}
use lib.Ieee.{Float}
use native.Mathlib.Omega.{arith}
use Rattle.grid.specs.LoopLaws.{start, next, done}
use Rattle.grid.specs.Real.{at}
use Rattle.svd_sort_svd_descending.specs.Rank.{noted, rank_lt, rank_counted}
use Rattle.svd_sort_svd_descending.proofs.order.note.Goals as goal

pub loop-k-init : goal.loop-k-init
loop-k-init c = start _ _ _

pub offset_bounds-o-p : goal.offset_bounds-o-p
offset_bounds-o-p c =
    let s : ℕ → Float = λ i. at c.args.w.now (c.args.from + i) in
    omega (arith, rank_lt s c.args.r c.loop-k.k (omega arith), rank_counted s c.args.r c.loop-k.k, c.rank-p.ensures)

pub bounds-o-p : goal.bounds-o-p
bounds-o-p c =
    let s : ℕ → Float = λ i. at c.args.w.now (c.args.from + i) in
    omega (arith, rank_lt s c.args.r c.loop-k.k (omega arith), rank_counted s c.args.r c.loop-k.k, c.rank-p.ensures)

pub loop-k-preserved : goal.loop-k-preserved
loop-k-preserved c = next _ _ _ _ (omega arith) c.loop-k.invariant (rw (← rank_counted (λ (i : ℕ). at c.args.w.now (c.args.from + i)) c.args.r c.loop-k.k, ← c.rank-p.ensures))

pub returns : goal.returns
unfolding noted
returns c = done _ _ _ (omega arith) (omega arith) c.loop-k.invariant
