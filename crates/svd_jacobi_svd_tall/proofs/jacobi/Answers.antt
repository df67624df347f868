use mathlib.Core.Path.{◌≡◌}
use mathlib.Core.Bool.{false}
use Rattle.answers.specs.Answers.{passed}
use Rattle.svd_jacobi_svd_tall.specs.JacobiSvdTall.{sweeps, jacobi}
use Rattle.svd_jacobi_svd_tall.proofs.jacobi.Goals as goal

pub returns-in-Ok : goal.returns-in-Ok
unfolding jacobi
returns-in-Ok c =
    let run : _ ≡ sweeps c.args.rows c.args.cols c.args.limit c.args.w.now = rw c.in-Ok.is at c.sweeps.ensures.value in
    rw (← run) c.finish.ensures

pub returns-in-Err : goal.returns-in-Err
unfolding jacobi
returns-in-Err c =
    let run : _ ≡ sweeps c.args.rows c.args.cols c.args.limit c.args.w.now = rw c.in-Err.is at c.sweeps.ensures.value in
    let no : passed c.in-Err.refusal ≡ false = rw c.in-Err.is at c.sweeps.ensures.refused in
    rw (← run, no)
