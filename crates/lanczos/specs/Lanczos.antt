-- What a call of `lanczos` gives, for every input: (answer, work afterwards, answer array afterwards), in the order of the scope's table. Definitions only.
use Rattle.std.specs.Prelude.{cond, ◌++◌, ℕ, length}
use Rattle.grid.specs.Real.{Vec, zeros}
use Rattle.leaves.specs.Scan.{first_bad}
use Rattle.answers.specs.Answers.{passed, refusal7}
use Rattle.answers.specs.declared.Answer.{Answer}
use Rattle.lanczos.specs.Run.{none, ran}
use Rattle.lanczos.specs.Checks.{checks}

-- 1, 2, 12, 14, 15 and 6 leave both arrays as they were; 7 looks at the matrix and then at the start vector; 7 to 10 fill both arrays with +0.0
unfoldable pub lanczos : ℕ → ℕ → ℕ → ℕ → Vec → Vec → Vec → Vec → Answer × Vec × Vec
lanczos n k limit edition a b work x =
    let check = checks n k limit edition (length a) (length b) (length work) (length x) in
    let bad = refusal7 (first_bad (a ++ b)) in
    let (r, found) = cond (passed bad) (ran n k limit edition a b) (none n k bad) in
    cond (passed check) (r, zeros (length work), found) (check, work, x)
