-- The numbers of the refusals, and what a check that can refuse comes to as a number. Definitions only.
use Rattle.std.specs.Prelude.{ℕ, Result, Ok, Err}
use Rattle.block_read.specs.declared.refusal.BlockRefusal.{BlockRefusal}
use Rattle.block_read.specs.declared.refusal.BlockRefusal.TheVariants.{Length, Short, Over, Count, Kind, Offset}

-- the numbers of the header
abbrev pub refusal_number : BlockRefusal → ℕ
refusal_number Length = 6
refusal_number Short = 20
refusal_number Over = 21
refusal_number Count = 22
refusal_number Kind = 23
refusal_number Offset = 24

-- 0, or the refusal
abbrev pub number_of : {A : Type 0} → Result A BlockRefusal → ℕ
number_of (Ok _) = 0
number_of (Err r) = refusal_number r
