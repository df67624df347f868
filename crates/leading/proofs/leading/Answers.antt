use mathlib.Core.Path.{refl, sym}
use Rattle.answers.proofs.VerdictLaws.{on_ok, on_err, fails}
use Rattle.leading.specs.Leading.{leading}
use Rattle.leading.specs.ChecksLaws.{checked}
use Rattle.leading.proofs.leading.Goals as goal

pub scanned-requires : goal.scanned-requires
scanned-requires c = let k = checked _ _ _ _ (sym (on_ok c.checks.ensures c.in-Ok.is)) refl in (k.fits, k.result, k.room)

pub returns-in-Ok : goal.returns-in-Ok
unfolding leading
returns-in-Ok c = rw (on_ok c.checks.ensures c.in-Ok.is) c.scanned.ensures

pub returns-in-Err : goal.returns-in-Err
unfolding leading
returns-in-Err c = rw (on_err c.checks.ensures c.in-Err.is, fails c.in-Err.r, c.into.ensures)
