-- What `leading` answers on 0. Definitions only.
use Rattle.std.specs.Prelude.{ℕ}
use Rattle.grid.specs.Real.{Vec}
use Rattle.answers.specs.Answers.{done}
use Rattle.answers.specs.declared.Answer.{Answer}
use Rattle.leading.specs.Leading.{led}

-- what is answered on 0
abbrev pub given : ℕ → ℕ → Vec → Answer × Vec
given n k v = (done 0, led n k v)
