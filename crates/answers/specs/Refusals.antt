-- The answers that refusals before a run come to, and the verdict of a check. Definitions only.
use Rattle.std.specs.Prelude.{⊤, Result, Ok, Err}
use Rattle.answers.specs.Answers.{done, refused}
use Rattle.answers.specs.declared.Answer.{Answer}
use Rattle.answers.specs.declared.refusal.Refusal.{Refusal}
use Rattle.answers.specs.declared.refusal.Refusal.TheVariants.{Dimension, Limit, NoU, NoVt, RightSide, Length, NotFinite, Tolerance, Edition, Run, NoBand, Pairs, Samples, EntryOver}

-- the numbers of the header
abbrev pub answer_to : Refusal → Answer
answer_to Dimension = refused 1 0
answer_to Limit = refused 2 0
answer_to NoU = refused 3 0
answer_to NoVt = refused 4 0
answer_to RightSide = refused 5 0
answer_to (Length array) = refused 6 array
answer_to (NotFinite index) = refused 7 index
answer_to Tolerance = refused 11 0
answer_to Edition = refused 12 0
answer_to Run = refused 13 0
answer_to NoBand = refused 14 0
answer_to Pairs = refused 15 0
answer_to Samples = refused 25 0
answer_to (EntryOver place) = refused 26 place

-- what a check comes to: the refusal, or that nothing is refused
abbrev pub verdict : Result ⊤ Refusal → Answer
verdict (Ok _) = done 0
verdict (Err r) = answer_to r
