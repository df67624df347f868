-- The promise of `qr_q` determines the outcome: two that satisfy it are the same. Laws only.
use Rattle.std.specs.Prelude.{◌≡◌, ℕ}
use Rattle.std.proofs.Common.{sym, ◌∙◌}
use Rattle.grid.specs.Real.{Vec}
use Rattle.answers.specs.declared.Answer.{Answer}
use Rattle.qr_q.specs.QrQ.{qr_q}

pub qr_q_one : (m k : ℕ) (a x : Vec) (o p : Answer × Vec) → o ≡ qr_q m k a x → p ≡ qr_q m k a x → o ≡ p
qr_q_one m k a x o p e f = e ∙ sym f
