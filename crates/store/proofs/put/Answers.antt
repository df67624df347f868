use Rattle.std.proofs.Common.{List, ℕ}
use Rattle.store_definition.specs.Store.{put_of}
use Rattle.store_definition.specs.Owners.{put_for}
use Rattle.store.proofs.Fits.{put_back}
use Rattle.store.specs.Refusals.{verdict}
use Rattle.store.proofs.put.Goals as goal

pub returns-in-Ok : goal.returns-in-Ok
unfolding put_for
returns-in-Ok c =
    rw (← c.in-Ok.ensures.refusal, c.answer_of.ensures)
    (put_back c.args.owner c.args.list.now c.args.tiles.now c.args.bytes.now _ c.in-Ok.ensures.part (λ (l t b : List ℕ). put_of 32 l t b c.args.tile c.args.block.now)
    (verdict c.put.result, c.put.new.list, c.put.new.tiles, c.put.new.bytes) c.put.ensures)
