-- The answers that a call's result comes to, and what the search for a tile says. Definitions only.
use Rattle.std.specs.Prelude.{cond, not, List, ℕ, ⊤, Result, Ok, Err}
use Rattle.answers.specs.Answers.{done, refused}
use Rattle.answers.specs.declared.Answer.{Answer}
use Rattle.store_definition.specs.Store.{entry_of, holds, sound}
use Rattle.store.specs.declared.refusal.StoreRefusal.{StoreRefusal}
use Rattle.store.specs.declared.refusal.StoreRefusal.TheVariants.{Length, Full, Held, Missing, Entries, Owner, Quotas, Buffer, Damaged}

-- the numbers of the header
abbrev pub number : StoreRefusal → ℕ
number Length = 6
number Full = 30
number Held = 31
number Missing = 32
number Entries = 33
number Owner = 34
number Quotas = 35
number Buffer = 37
number Damaged = 39

-- a refusal as the four numbers of a call
abbrev pub answer_to : StoreRefusal → Answer
answer_to r = refused (number r) 0

-- a call that is done or refused
abbrev pub verdict : Result ⊤ StoreRefusal → Answer
verdict (Ok _) = done 0
verdict (Err r) = answer_to r

-- a call that counts
abbrev pub counted : Result ℕ StoreRefusal → Answer
counted (Ok n) = done n
counted (Err r) = answer_to r

-- what is refused, or 0
abbrev pub number_of : {X : Type 0} → Result X StoreRefusal → ℕ
number_of (Ok _) = 0
number_of (Err r) = number r

-- the entry of a tile: 39, then 32
unfoldable pub looked_up : ℕ → List ℕ → List ℕ → List ℕ → ℕ → Result ℕ StoreRefusal
looked_up entries list tiles bytes t =
    cond (not (sound entries list tiles bytes)) (Err Damaged)
    (cond (not (holds list tiles bytes t)) (Err Missing)
    (Ok (entry_of list tiles bytes t)))
