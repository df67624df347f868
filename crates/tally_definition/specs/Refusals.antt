-- The numbers of the refusals. Definitions only.
use Rattle.std.specs.Prelude.{ℕ}
use Rattle.tally_definition.specs.declared.Refusal.{Refusal}
use Rattle.tally_definition.specs.declared.Refusal.TheVariants.{NotFit, OutOfRange}

-- the number that C gets of a refusal
abbrev pub number : Refusal → ℕ
number NotFit = 36
number OutOfRange = 38
