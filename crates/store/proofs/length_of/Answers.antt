use Rattle.std.proofs.Common.{List, ℕ, ◌∙◌}
use Rattle.store_definition.specs.Store.{length_held}
use Rattle.store_definition.specs.Owners.{length_for}
use Rattle.store.proofs.Fits.{own_parts}
use Rattle.store.proofs.length_of.Goals as goal

pub returns-in-Ok : goal.returns-in-Ok
unfolding length_for
returns-in-Ok c =
    rw (← c.in-Ok.ensures.refusal, c.count_of.ensures)
    (c.length_of.ensures ∙ own_parts c.args.owner c.args.list.now c.args.tiles.now c.args.bytes.now _ c.in-Ok.ensures.part (λ (l t b : List ℕ). length_held 32 l t b c.args.tile))
