use lib.Seq.{length-take-le}
use borrow.Author.Tests.{not-true, not-false}
use Rattle.lanczos.specs.Run.{ran}
use Rattle.lanczos.specs.SizesLaws.{some_steps, room_of_lem}
use Rattle.std.proofs.Common.{ap, not}
use Rattle.lanczos.proofs.run.run.Goals as goal

pub returns-then-not-is_finite : goal.returns-then-not-is_finite
unfolding ran
returns-then-not-is_finite c = rw (← rw c.requires.2 at c.norm-by.ensures, ← c.is_finite.ensures, not-true c.is_finite.result (ap not c.if-not-is_finite.true), ← c.class_of.ensures, ← c.answered.ensures, c.requires.5)

pub begin-requires : goal.begin-requires
begin-requires c = (some_steps c.args.n c.args.k _ c.requires.0.some c.size-s.ensures, room_of_lem c.args.n c.args.k _ _ c.requires.0 c.size-s.ensures c.requires.3, c.requires.1, c.requires.2, length-take-le c.args.n _ c.requires.0.size, length-take-le c.args.n _ c.requires.0.size, c.requires.4, c.requires.5)

pub returns : goal.returns
unfolding ran
returns c = rw (← rw c.requires.2 at c.norm-by.ensures, ← c.is_finite.ensures, not-false c.is_finite.result (ap not c.if-not-is_finite.false), ← c.size-s.ensures) c.begin.ensures
