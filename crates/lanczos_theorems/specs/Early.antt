-- A refusal of `lanczos` that leaves both arrays as they were. Definitions only.
use Rattle.std.specs.Prelude.{◌≡◌, ◌⊎◌, ℕ}
use Rattle.grid.specs.Real.{Vec}
use Rattle.answers.specs.Early.{EarlyOr12}
use Rattle.answers.specs.declared.Answer.{Answer}
use Rattle.lanczos.specs.Lanczos.{lanczos}

-- 1 to 6, 12, 14 and 15
abbrev pub Untouched : Answer → Type 0
Untouched x = EarlyOr12 x ⊎ ((x.answer ≡ 14) ⊎ (x.answer ≡ 15))

-- what a call gives: its answer, work and the answer array afterwards
abbrev pub Outcome : Type 0
Outcome = Answer × Vec × Vec

-- and what is promised of it
abbrev pub Promised : ℕ → ℕ → ℕ → ℕ → Vec → Vec → Vec → Vec → Outcome → Type 0
Promised n k limit edition a b work x y = y ≡ lanczos n k limit edition a b work x
