use mathlib.Core.Path.{◌≡◌, sym}
use native.Mathlib.Omega.{arith}
use borrow.Author.Tests.{eq-eqb, ne_eqb}
use Rattle.std.specs.Prelude.{set}
use Rattle.std.specs.List.{swap}
use Rattle.std.proofs.lemmas.List.Edits.{swap_is}
use Rattle.grid.specs.Real.{at}
use Rattle.eigen_tql2.specs.Sort.{sort_step}
use Rattle.eigen_tql2.specs.SortBounds.{least_from_below, least_from_is}
use Rattle.eigen_tql2.proofs.sort.sort_at.Goals as goal

pub swap-requires-clause-a_in_bounds : goal.swap-requires-clause-a_in_bounds
swap-requires-clause-a_in_bounds c = omega (arith, c.requires, least_from_below _ _ _ _ c.requires.0 c.least_from-k.ensures)

pub swap-requires-then-k-i : goal.swap-requires-then-k-i
swap-requires-then-k-i c = omega (arith, c.requires, least_from_below _ _ _ _ c.requires.0 c.least_from-k.ensures)

pub returns-then-k-i : goal.returns-then-k-i
unfolding sort_step
returns-then-k-i c =
    let k = c.least_from-k.result.k in
    let below = least_from_below _ _ _ _ c.requires.0 c.least_from-k.ensures in
    let e : swap c.args.d.now k c.args.i ≡ set (set c.args.d.now k (at c.args.d.now c.args.i)) c.args.i (at c.args.d.now k) = sym (swap_is c.args.d.now k c.args.i _ (omega (arith, c.requires, below)) (omega (arith, c.requires))) in
    rw (← c.least_from-k.ensures, ← c.swap-then-k-i.ensures, ne_eqb _ _ c.if-k-i.true, least_from_is _ _ _ _ c.least_from-k.ensures, c.swap.ensures.after, e)

pub returns-else-k-i : goal.returns-else-k-i
unfolding sort_step
returns-else-k-i c = rw (← c.least_from-k.ensures, eq-eqb _ _ c.if-k-i.false)
