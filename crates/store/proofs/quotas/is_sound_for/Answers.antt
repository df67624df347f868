use Rattle.std.proofs.Common.{◌∙◌}
use Rattle.store_definition.specs.Store.{sound}
use Rattle.store.proofs.Fits.{own_parts}
use Rattle.store.proofs.quotas.is_sound_for.Goals as goal

pub returns : goal.returns
returns c = c.is_sound.ensures ∙ own_parts c.args.owner c.args.list.now c.args.tiles.now c.args.bytes.now _ c.part_for-part.ensures.is (sound 32)
