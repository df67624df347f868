use mathlib.Core.Path.{refl, sym}
use Rattle.answers.proofs.VerdictLaws.{on_ok, on_err, fails}
use Rattle.qr_q.specs.QrQ.{qr_q}
use Rattle.qr_q.proofs.Early.{sized}
use Rattle.qr_q.proofs.qr_q.Goals as goal

pub scanned-requires : goal.scanned-requires
scanned-requires c = sized _ _ _ _ (sym (on_ok c.checks.ensures c.in-Ok.is)) refl

pub returns-in-Ok : goal.returns-in-Ok
unfolding qr_q
returns-in-Ok c = rw (on_ok c.checks.ensures c.in-Ok.is) c.scanned.ensures

pub returns-in-Err : goal.returns-in-Err
unfolding qr_q
returns-in-Err c = rw (on_err c.checks.ensures c.in-Err.is, fails c.in-Err.r, c.into.ensures)
