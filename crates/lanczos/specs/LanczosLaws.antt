-- What a call does behind its checks, as the code has it; no promise speaks of it. Laws only.
use Rattle.std.specs.Prelude.{cond, ◌++◌, ℕ, length}
use Rattle.grid.specs.Real.{Vec, zeros}
use Rattle.leaves.specs.Scan.{first_bad}
use Rattle.answers.specs.Answers.{passed, refusal7}
use Rattle.answers.specs.declared.Answer.{Answer}
use Rattle.lanczos.specs.Run.{none, ran}

abbrev pub lanczos_entered : ℕ → ℕ → ℕ → ℕ → Vec → Vec → Vec → Answer × Vec × Vec
lanczos_entered n k limit edition a b work =
    let bad = refusal7 (first_bad (a ++ b)) in
    let (r, found) = cond (passed bad) (ran n k limit edition a b) (none n k bad) in
    (r, zeros (length work), found)
