-- The count of a run is the sweeps run; what the code's sweeps say. Laws only.
use Rattle.leaves.specs.declared.Bad.{Bad}
use Rattle.std.specs.Prelude.{◌≡◌, refl, Bool, true, false, cond, ℕ, ◌+◌, Option, Some, None, is_some, Result, Ok, Err}
use Rattle.grid.specs.Real.{Vec}
use Rattle.answers.specs.Answers.{done, marked}
use Rattle.answers.specs.declared.Answer.{Answer}
use Rattle.svd_jacobi_svd_tall.specs.JacobiSvdTall.{going_after, verdict, swept}

-- the count is the sweeps run
pub verdict_count : (b : Option Bad) (changed : Bool) (count : ℕ) → (verdict b changed count).count ≡ count
unfolding verdict
verdict_count b changed count = go b changed
  where
    go : (b : Option Bad) (y : Bool) → (cond (is_some b) (marked 1 count b) (cond y (going_after count) (done count))).count ≡ count
    go (Some bad) y = refl
    go None true = refl
    go None false = refl

pub swept_count : (rows cols : ℕ) (x : Answer × Vec) → (swept rows cols x).0.count ≡ x.0.count + 1
unfolding swept
swept_count rows cols x = verdict_count _ _ _

-- the four numbers of a run that settled after so many sweeps, or was refused
abbrev pub told : Result ℕ Answer → Answer
told (Ok count) = done count
told (Err refusal) = refusal
