-- What adding a tile does to a tally, for every tally and numbers. Definitions only.
use Rattle.std.specs.Prelude.{Result, Ok, Err, Bool, cond, ◌&&◌, List, ℕ, ◌+◌, ltb, leb, eqb, get_or, set, replicate}
use Rattle.grid.specs.Loop.{every}
use Rattle.tally_definition.specs.Figures.{in_range}
use Rattle.tally_definition.specs.declared.Tally.{Tally}
use Rattle.tally_definition.specs.declared.Refusal.{Refusal}
use Rattle.tally_definition.specs.Refusals.{number}

-- the counts of all answers, 0 to 15, are at most 65,536
unfoldable pub small : List ℕ → Bool
small counts = every (λ a. leb (get_or counts a 0) 65536) 16

-- the tally has room for a tile more, and no figure that no series gives
unfoldable pub fit : Tally → Bool
fit t = ltb t.tiles 65536 && (leb t.passes 1006632960 && (leb t.most 15360 && (leb t.first 65535 && small t.counts)))

-- what adding this tile is refused with: 38, a number of it is out of range; then 36, the tally isn't fit; else 0
unfoldable pub refusal : Tally → ℕ → ℕ → ℕ
refusal t answer passes = cond (in_range answer passes) (cond (fit t) 0 36) 38

-- the tally with one tile more. Only more passes than any tile before take the lead: a first tile of 0 passes leads at place 0, as none does
unfoldable pub next : Tally → ℕ → ℕ → Tally
next t answer passes =
    record {
      tiles = t.tiles + 1;
      counts = set t.counts answer (get_or t.counts answer 0 + 1);
      passes = t.passes + passes;
      most = cond (ltb t.most passes) passes t.most;
      first = cond (ltb t.most passes) t.tiles t.first;
    }

-- what comes of adding a tile: the refusal, 0 where there is none, and the tally afterwards
pub record Reply : Type 0 where
  pub refusal : ℕ
  pub tally : Tally

-- the refusal, and the tally after: the same where it is refused
unfoldable pub outcome : Tally → ℕ → ℕ → Reply
outcome t answer passes = record { refusal = refusal t answer passes; tally = cond (eqb (refusal t answer passes) 0) (next t answer passes) t }

-- the reply of a function that gives the tally after, or why the tile is refused, which leaves the tally t as it is
abbrev pub reply_of : Tally → Result Tally Refusal → Reply
reply_of t (Ok u) = record { refusal = 0; tally = u }
reply_of t (Err r) = record { refusal = number r; tally = t }

-- no tile
unfoldable pub none : Tally
none = record { tiles = 0; counts = replicate 16 0; passes = 0; most = 0; first = 0 }
