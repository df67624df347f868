use mathlib.Core.Path.{◌∙◌, refl, ap}
use Prim.Native.Nat.{◌*◌}
use native.Mathlib.Omega.{arith}
use Rattle.leaves.specs.ScanLaws.{after, cell_at, first_bad_of}
use Rattle.leaves.proofs.scan.Search.{left_more, found_here, found_none, after_place, start_place, place_low, place_within}
use Rattle.std.proofs.Common.{not}
use Rattle.leaves.proofs.scan.first_bad_of.Goals as goal

pub loop-k-init : goal.loop-k-init
loop-k-init c = (omega arith, start_place c.args.cols, refl)

pub overflow_mul-x : goal.overflow_mul-x
overflow_mul-x c = omega (arith, place_within c.args.rows c.args.cols c.loop-k.k (omega arith) c.loop-k.invariant.1)

pub overflow_add-x : goal.overflow_add-x
overflow_add-x c = omega (arith, place_within c.args.rows c.args.cols c.loop-k.k (omega arith) c.loop-k.invariant.1)

pub bounds-v-p : goal.bounds-v-p
bounds-v-p c = omega (arith, place_within c.args.rows c.args.cols c.loop-k.k (omega arith) c.loop-k.invariant.1)

pub returns-then-not-is_finite : goal.returns-then-not-is_finite
unfolding first_bad_of
returns-then-not-is_finite c = found_here (cell_at c.args.rows c.args.cols c.args.v.now) c.loop-k.k (c.args.rows * c.args.cols) (omega arith) (rw (← c.loop-k.invariant.1, ← c.is_finite.ensures) (ap not c.if-not-is_finite.true)) (rw (← c.loop-k.invariant.1) c.class_of.ensures) c.loop-k.invariant.2

pub after-p-requires : goal.after-p-requires
after-p-requires c = omega (arith, place_low c.args.cols c.loop-k.k c.loop-k.invariant.1)

pub loop-k-preserved : goal.loop-k-preserved
loop-k-preserved c = (omega arith, c.after-p.ensures ∙ ap (after c.args.cols) c.loop-k.invariant.1 ∙ after_place c.args.cols c.loop-k.k, left_more (cell_at c.args.rows c.args.cols c.args.v.now) c.loop-k.k (c.args.rows * c.args.cols) (omega arith) (rw (← c.loop-k.invariant.1, ← c.is_finite.ensures) (ap not c.if-not-is_finite.false)) c.loop-k.invariant.2)

pub returns : goal.returns
unfolding first_bad_of
returns c = found_none (cell_at c.args.rows c.args.cols c.args.v.now) c.loop-k.k (c.args.rows * c.args.cols) (omega arith) c.loop-k.invariant.2

pub offset_bounds-v-p : goal.offset_bounds-v-p
offset_bounds-v-p c = grind (arith, place_within c.args.rows c.args.cols c.loop-k.k (omega arith) c.loop-k.invariant.1, c.type_inv.v)
