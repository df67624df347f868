use Rattle.std.proofs.Common.{sym, length-take-le}
use borrow.Author.Tests.{not-false}
use Rattle.std.proofs.Common.{ap, not}
use Rattle.test_replay.proofs.fitted_in_steps.Goals as goal

pub slice_bounds-agrees_in_steps-end : goal.slice_bounds-agrees_in_steps-end
slice_bounds-agrees_in_steps-end c = sym (length-take-le _ _ (c.room.ensures.0 (not-false c.room.result (ap not c.if-not-room.false))).0)

pub slice_bounds-agrees_in_steps-end-2 : goal.slice_bounds-agrees_in_steps-end-2
slice_bounds-agrees_in_steps-end-2 c = (c.room.ensures.0 (not-false c.room.result (ap not c.if-not-room.false))).2

pub slice_bounds-agrees_in_steps-end-3 : goal.slice_bounds-agrees_in_steps-end-3
slice_bounds-agrees_in_steps-end-3 c = sym (length-take-le _ _ (c.room.ensures.0 (not-false c.room.result (ap not c.if-not-room.false))).2)

pub slice_bounds-agrees_in_steps-end-4 : goal.slice_bounds-agrees_in_steps-end-4
slice_bounds-agrees_in_steps-end-4 c = (c.room.ensures.0 (not-false c.room.result (ap not c.if-not-room.false))).3

pub slice_bounds-agrees_in_steps-end-5 : goal.slice_bounds-agrees_in_steps-end-5
slice_bounds-agrees_in_steps-end-5 c = sym (length-take-le _ _ (c.room.ensures.0 (not-false c.room.result (ap not c.if-not-room.false))).3)
