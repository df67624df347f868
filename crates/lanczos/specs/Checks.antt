-- What a call of `lanczos` refuses by its sizes, limit, edition and lengths, in the order of the scope's table. Definitions only.
use Rattle.std.specs.Prelude.{cond, not, ℕ, ◌+◌, ◌*◌, ltb, eqb}
use Rattle.answers.specs.Answers.{done, refused, passed, least}
use Rattle.answers.specs.Checks.{limit_good, edition_good, lengths}
use Rattle.answers.specs.declared.Answer.{Answer}

-- s, how many steps at the most
unfoldable pub size : ℕ → ℕ → ℕ
size n k = least (2 * k + 20) n

-- s·n + 2n + 2s·s + 4s
unfoldable pub work_length : ℕ → ℕ → ℕ
work_length n k = size n k * n + 2 * n + 2 * size n k * size n k + 4 * size n k

-- refusals 1, 2, 12, 14, 15 and 6, for arrays of so many numbers: matrix, start vector, work, answer
unfoldable pub checks : ℕ → ℕ → ℕ → ℕ → ℕ → ℕ → ℕ → ℕ → Answer
checks n k limit edition a b work x =
    let first = lengths a (n * n) b n work (work_length n k) in
    cond (ltb 256 n) (refused 1 0)
    (cond (not (limit_good limit)) (refused 2 0)
    (cond (not (edition_good edition)) (refused 12 0)
    (cond (eqb n 0) (refused 14 0)
    (cond (ltb n k) (refused 15 0)
    (cond (passed first) (cond (eqb x (k + k * n)) (done 0) (refused 6 3)) first)))))
