-- `jacobi_svd_tall` of document 000, operation for operation, over one sweep. Definitions only.
use Rattle.leaves.specs.declared.Bad.{Bad}
use Rattle.std.specs.Prelude.{Bool, cond, not, ℕ, ◌+◌, eqb, Option, is_some}
use Rattle.grid.specs.Loop.{rounds}
use Rattle.grid.specs.Real.{Vec}
use Rattle.answers.specs.Answers.{answered, done, passed, marked}
use Rattle.answers.specs.declared.Answer.{Answer}
use Rattle.svd_jacobi_svd_tall.specs.Sweep.{sweep}
use Rattle.svd_jacobi_svd_tall.specs.Marks.{factors_bad, all_bad}
use Rattle.svd_jacobi_svd_tall.specs.SingularValues.{normalised}

-- the run goes on after so many sweeps; where the limit leaves no other, this is refusal 9
abbrev pub going_after : ℕ → Answer
going_after count = answered 9 count 0 count

-- after sweep number count: mark 1, then settled if no pair turned (was rotated), then the limit, if no sweep follows
unfoldable pub verdict : Option Bad → Bool → ℕ → Answer
verdict b changed count = cond (is_some b) (marked 1 count b) (cond changed (going_after count) (done count))

-- one sweep more, and what is said after it
unfoldable pub swept : ℕ → ℕ → Answer × Vec → Answer × Vec
swept rows cols (a, w) =
    let y = sweep rows cols w in
    (verdict (factors_bad rows cols y.1) y.0 (a.count + 1), y.1)

-- not `going_after`
abbrev pub ended : Answer × Vec → Bool
ended (a, w) = not (eqb a.answer 9)

-- sweeps until one ends the run, at most limit
unfoldable pub sweeps : ℕ → ℕ → ℕ → Vec → Answer × Vec
sweeps rows cols limit w = rounds (swept rows cols) ended limit (going_after 0, w)

-- where the sweeps settled
unfoldable pub finished : ℕ → ℕ → Answer × Vec → Answer × Vec
finished rows cols (a, w) =
    let y = normalised rows cols w in
    (marked 2 a.count (all_bad rows cols y), y)

-- the sweeps; where they settled, the values and mark 2
unfoldable pub jacobi : ℕ → ℕ → ℕ → Vec → Answer × Vec
jacobi rows cols limit w =
    let x = sweeps rows cols limit w in
    cond (passed x.0) (finished rows cols x) x
