use Rattle.std.proofs.Common.{List, ℕ, ◌∙◌}
use Rattle.store_definition.specs.Store.{fetch_of}
use Rattle.store_definition.specs.Owners.{fetch_for}
use Rattle.store.proofs.Fits.{own_parts}
use Rattle.store.proofs.fetch.Goals as goal

pub returns-in-Ok : goal.returns-in-Ok
unfolding fetch_for
returns-in-Ok c =
    rw (← c.in-Ok.ensures.refusal, c.answer_of.ensures)
    (c.fetch.ensures ∙ own_parts c.args.owner c.args.list.now c.args.tiles.now c.args.bytes.now _ c.in-Ok.ensures.part (λ (l t b : List ℕ). fetch_of 32 l t b c.args.tile c.args.out.now))
