use mathlib.Core.Path.{refl}
use lib.ListN.{length}
use Rattle.answers.proofs.VerdictLaws.{fails}
use Rattle.lanczos.specs.Lanczos.{lanczos}
use Rattle.lanczos.specs.ChecksLaws.{checked}
use Rattle.lanczos.proofs.lanczos.Goals as goal

pub invariant_of-how : goal.invariant_of-how
invariant_of-how c = record { called = (checked c.args.n c.args.k c.args.limit c.args.edition (length c.args.matrix.now) (length c.args.start.now) (length c.args.work.now) (length c.args.answer.now) c.in-Ok.ensures refl).called }

pub enter-requires : goal.enter-requires
enter-requires c = let p = checked c.args.n c.args.k c.args.limit c.args.edition (length c.args.matrix.now) (length c.args.start.now) (length c.args.work.now) (length c.args.answer.now) c.in-Ok.ensures refl in (p.fit, p.matrix, p.vector, p.works, p.answers)

pub returns-in-Ok : goal.returns-in-Ok
unfolding lanczos
returns-in-Ok c = rw (← c.in-Ok.ensures) c.enter.ensures

pub returns-in-Err : goal.returns-in-Err
unfolding lanczos
returns-in-Err c = rw (← c.in-Err.ensures, fails c.in-Err.r, c.into.ensures)
