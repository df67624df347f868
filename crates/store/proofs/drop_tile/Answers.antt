use Rattle.std.proofs.Common.{List, ℕ}
use Rattle.store_definition.specs.Store.{drop_of}
use Rattle.store_definition.specs.Owners.{drop_for}
use Rattle.store.proofs.Fits.{put_back}
use Rattle.store.specs.Refusals.{verdict}
use Rattle.store.proofs.drop_tile.Goals as goal

pub returns-in-Ok : goal.returns-in-Ok
unfolding drop_for
returns-in-Ok c =
    rw (← c.in-Ok.ensures.refusal, c.answer_of.ensures)
    (put_back c.args.owner c.args.list.now c.args.tiles.now c.args.bytes.now _ c.in-Ok.ensures.part (λ (l t b : List ℕ). drop_of 32 l t b c.args.tile)
    (verdict c.drop_tile.result, c.drop_tile.new.list, c.drop_tile.new.tiles, c.drop_tile.new.bytes) c.drop_tile.ensures)
