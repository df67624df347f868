use mathlib.Core.Path.{◌≡◌}
use Rattle.grid.specs.Loop.{upto}
use Rattle.answers.specs.Answers.{answered}
use Rattle.qr_q.specs.Result.{column_step}
use Rattle.qr_q.proofs.columns.Given as goal

abbrev pub invariant-loop-j : goal.invariant-loop-j
invariant-loop-j l = (l.r.answer ≡ 0) × ((l.r, l.q) ≡ upto (column_step l.m l.k) 0 l.j (answered 0 0 0 0, l.initial.q))
