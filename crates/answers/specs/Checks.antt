-- The checks that several calls share. Definitions only.
use Rattle.std.specs.Prelude.{Bool, cond, not, ◌&&◌, ℕ, leb, eqb, Float, List, Option, Some, None, position}
use Rattle.std.specs.Float.Ieee.{le}
use Rattle.grid.specs.Real.{zero64}
use Rattle.answers.specs.Answers.{done, refused}
use Rattle.answers.specs.declared.Answer.{Answer}

-- the limit is 1 to 60
unfoldable pub limit_good : ℕ → Bool
limit_good limit = leb 1 limit && leb limit 60

-- the edition is 1 or 2
unfoldable pub edition_good : ℕ → Bool
edition_good edition = leb 1 edition && leb edition 2

-- a tolerance is 0 or above: -0.0 equals 0, and a NaN is not above it
unfoldable pub tolerance_good : Float → Bool
tolerance_good tol = le zero64 tol

-- refusal 6: the place is the first array whose length is not the one wanted
unfoldable pub lengths : ℕ → ℕ → ℕ → ℕ → ℕ → ℕ → Answer
lengths a want_a b want_b c want_c = cond (eqb a want_a) (cond (eqb b want_b) (cond (eqb c want_c) (done 0) (refused 6 2)) (refused 6 1)) (refused 6 0)

-- the same of any number of arrays, each by its length and the one wanted
abbrev pub verdict_at : Option ℕ → Answer
verdict_at (Some array) = refused 6 array
verdict_at None = done 0

abbrev pub unequal : List (ℕ × ℕ) → Option ℕ
unequal pairs = position (λ p. not (eqb p.0 p.1)) pairs

abbrev pub lengths_of : List (ℕ × ℕ) → Answer
lengths_of pairs = verdict_at (unequal pairs)

-- refusal 11, and behind it 6: of a call with a tolerance and two arrays
unfoldable pub fitting : Float → ℕ → ℕ → ℕ → ℕ → Answer
fitting tol a want_a b want_b = cond (not (tolerance_good tol)) (refused 11 0) (lengths a want_a b want_b 0 0)

-- refusal 12, and behind it 6: of a call with an edition and three arrays
unfoldable pub fitting_edition : ℕ → ℕ → ℕ → ℕ → ℕ → ℕ → ℕ → Answer
fitting_edition edition a want_a b want_b c want_c = cond (not (edition_good edition)) (refused 12 0) (lengths a want_a b want_b c want_c)
