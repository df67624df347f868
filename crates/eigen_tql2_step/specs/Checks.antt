-- What a step and a finish refuse of a run still going: 6, then 13. Definitions only.
use Rattle.std.specs.Prelude.{Bool, cond, not, ◌&&◌, ◌||◌, ℕ, ◌+◌, ◌*◌, ◌-◌, ltb, leb, eqb, length, drop, is_some}
use Rattle.std.specs.Float.Ieee.{le, eq}
use Rattle.grid.specs.Real.{Vec, zero64, at}
use Rattle.grid.specs.Table.{part}
use Rattle.leaves.specs.Scan.{first_bad}
use Rattle.answers.specs.Answers.{done, refused, passed}
use Rattle.answers.specs.declared.Answer.{Answer}
use Rattle.answers.specs.Checks.{limit_good, edition_good, lengths}
use Rattle.eigen_tql2_pass.specs.declared.Run.{Run}

-- each number of a run still going is in range for its size; f may be anything, and tst1 is looked at below
unfoldable pub in_range : ℕ → ℕ → ℕ → Run → Bool
in_range n limit edition r =
    leb 1 n
    && (leb n 256
    && (limit_good limit
    && (edition_good edition
    && (leb r.l n
    && (ltb r.m n
    && (ltb r.passes limit
    && (leb r.passes r.count
    && (leb r.count (r.l * limit + r.passes)
    && (eqb r.index 0
    && (eqb r.passes 0 || ltb r.l r.m))))))))))

-- tst1 is neither NaN nor negative, the last e is zero, and d and e are finite from l on: e stands in work, d at the front of the result
unfoldable pub sound : ℕ → Run → Vec → Vec → Bool
sound n r work result =
    le zero64 r.tst1
    && (eq (at work (n - 1)) zero64 && (not (is_some (first_bad (part r.l n result))) && not (is_some (first_bad (drop r.l work)))))

-- 6, its place 0 for work and 1 for the result; then 13; or done
unfoldable pub checked : ℕ → ℕ → ℕ → Run → Vec → Vec → Answer
checked n limit edition r work result =
    let x = lengths (length work) n (length result) (n + n * n) 0 0 in
    cond (passed x) (cond (in_range n limit edition r && sound n r work result) (done 0) (refused 13 0)) x
