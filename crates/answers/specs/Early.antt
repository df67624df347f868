-- A refusal that leaves every array as it was. Definitions only.
use Rattle.std.specs.Prelude.{◌≡◌, ◌⊎◌, ◌≤◌}
use Rattle.answers.specs.declared.Answer.{Answer}

-- 1 to 6
pub record Early (x : Answer) : Type 0 where
  pub some : 1 ≤ x.answer
  pub few : x.answer ≤ 6

-- in a call with a tolerance 11 too
abbrev pub EarlyOr11 : Answer → Type 0
EarlyOr11 x = Early x ⊎ (x.answer ≡ 11)

-- in a call with an edition 12 too
abbrev pub EarlyOr12 : Answer → Type 0
EarlyOr12 x = Early x ⊎ (x.answer ≡ 12)
