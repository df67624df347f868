use Rattle.std.proofs.Common.{sym, ◌∙◌}
use Rattle.store_definition.specs.SoundLaws.{facts}
use Rattle.store.proofs.loops.check.Goals as goal

pub returns-then-is_sound-clause-facts : goal.returns-then-is_sound-clause-facts
returns-then-is_sound-clause-facts c = facts _ _ _ _ (sym c.is_sound.ensures ∙ c.if-is_sound.true)
