-- What an answer's index says. Definitions only.
use Rattle.std.specs.Prelude.{◌≡◌, ◌⊎◌, ℕ}
use Rattle.answers.specs.declared.Answer.{Answer}

-- the class of a number that is not finite, as a mark answers it
abbrev pub Class : ℕ → Type 0
Class b = (b ≡ 8) ⊎ (b ≡ 10)

-- the answer of a mark
abbrev pub AtMark : Answer → Type 0
AtMark x = Class x.answer

-- at a mark the index points at what Points says; on every other answer it is 0
pub record Indexed (Points : Answer → Type 0) (x : Answer) : Type 0 where
  pub points : AtMark x → Points x
  pub zero : (AtMark x → ⊥) → x.index ≡ 0
