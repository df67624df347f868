use Rattle.std.proofs.Common.{◌≡◌, length, arith, le-ltb, lt-ltb}
use Rattle.lanczos_steps.specs.Krylov.{recurred}
use Rattle.lanczos_steps.proofs.recur.Goals as goal

pub returns-then-j-gt0 : goal.returns-then-j-gt0
unfolding recurred
returns-then-j-gt0 c =
    let long : length c.add.new.w ≡ c.args.n = omega arith in
    rw (lt-ltb 0 _ c.if-j-gt0.true, ← rw c.requires.4 at c.add.ensures, ← c.row.ensures.0) (rw long at c.add-then-j-gt0.ensures)

pub returns-else-j-gt0 : goal.returns-else-j-gt0
unfolding recurred
returns-else-j-gt0 c = rw (le-ltb 0 _ c.if-j-gt0.false, ← rw c.requires.4 at c.add.ensures)
