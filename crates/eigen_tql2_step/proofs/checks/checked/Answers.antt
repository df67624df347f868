use mathlib.Core.Path.{sym, ◌∙◌}
use Prim.Native.Nat.{◌+◌, ◌*◌}
use lib.ListN.{length}
use borrow.Author.Tests.{eq-eqb, ne_eqb, not-false}
use lib.Dec.{eqb}
use Rattle.answers.specs.Checks.{lengths}
use Rattle.eigen_tql2_step.specs.Checks.{checked}
use Rattle.eigen_tql2_step.specs.CheckLaws.{sound_room, holds, fails}
use Rattle.std.proofs.Common.{ap, not}
use Rattle.eigen_tql2_step.proofs.checks.checked.Goals as goal
use Rattle.eigen_tql2_step.proofs.checks.checked.Goals.{else-in_range-via-then-in_range+else-sound, else-in_range-via-else-in_range}

pub returns-then-work-n : goal.returns-then-work-n
unfolding checked lengths
returns-then-work-n c = rw (ne_eqb _ _ c.if-work-n.true)

pub returns-then-not-result_fits : goal.returns-then-not-result_fits
unfolding checked lengths
returns-then-not-result_fits c = rw (eq-eqb _ _ c.if-work-n.false, fails (eqb (length c.args.res.now) (c.args.n + c.args.n * c.args.n)) c.result_fits.ensures (ap not c.if-not-result_fits.true))

pub sound-requires : goal.sound-requires
sound-requires c = let k = sound_room _ _ _ _ _ c.result_fits.ensures (not-false _ (ap not c.if-not-result_fits.false)) c.in_range.ensures c.if-in_range.true in (k.0, k.1, c.if-work-n.false, k.2)

pub returns-then-sound : goal.returns-then-sound
unfolding checked lengths
returns-then-sound c = rw (eq-eqb _ _ c.if-work-n.false, holds (eqb (length c.args.res.now) (c.args.n + c.args.n * c.args.n)) c.result_fits.ensures (ap not c.if-not-result_fits.false), sym c.in_range.ensures ∙ c.if-in_range.true, sym c.sound.ensures ∙ c.if-sound.true)

pub returns-else-in_range : goal.returns-else-in_range
unfolding checked lengths
returns-else-in_range c = elim c.else-in_range.branch [
  | else-in_range-via-then-in_range+else-sound w ↦ rw (eq-eqb _ _ c.if-work-n.false, holds (eqb (length c.args.res.now) (c.args.n + c.args.n * c.args.n)) c.result_fits.ensures (ap not c.if-not-result_fits.false), sym c.in_range.ensures ∙ w.if-in_range.true, sym w.sound.ensures ∙ w.if-sound.false)
  | else-in_range-via-else-in_range w ↦ rw (eq-eqb _ _ c.if-work-n.false, holds (eqb (length c.args.res.now) (c.args.n + c.args.n * c.args.n)) c.result_fits.ensures (ap not c.if-not-result_fits.false), sym c.in_range.ensures ∙ w.if-in_range.false)
]
