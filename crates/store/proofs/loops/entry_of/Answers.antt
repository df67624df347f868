use Rattle.std.proofs.Common.{[], ◌∙◌}
use Rattle.store.specs.LoopLaws.{entry_is}
use Rattle.store.proofs.loops.entry_of.Goals as goal

pub returns : goal.returns
returns c = c.find.ensures ∙ entry_is c.args.list.now c.args.tiles.now [] c.args.tile c.requires.1
