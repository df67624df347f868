use mathlib.Core.Path.{◌∙◌}
use Prim.Native.Nat.{◌*◌}
use native.Mathlib.Omega.{arith}
use lib.Seq.{length-take-le}
use Rattle.lanczos.proofs.run.Steps.{go_stops, go_goes, go_small, go_clean, go_fine}
use Rattle.lanczos.proofs.run.go.Goals as goal

pub returns-in-Err : goal.returns-in-Err
returns-in-Err c = go_stops c.args.n c.args.s c.args.k c.args.how.limit c.args.how.edition c.args.a.now c.args.v.now c.args.work.now c.requires.5 c.requires.1 (rw c.in-Err.is at c.steps.ensures.came) _ c.requires.6

pub solve_local-requires : goal.solve_local-requires
solve_local-requires c = (go_small c.args.n c.args.s c.args.k c.args.how.limit c.args.how.edition c.args.a.now c.args.v.now c.args.work.now c.requires.5 c.requires.1 (rw c.in-Ok.is at c.steps.ensures.came) (c.steps.auto.q ∙ length-take-le (c.args.s * c.args.n) c.args.work.now (omega (arith, c.requires.1.room))) c.requires.0, go_clean c.args.n c.args.s c.args.k c.args.how.limit c.args.how.edition c.args.a.now c.args.v.now c.args.work.now c.requires.5 c.requires.1 (rw c.in-Ok.is at c.steps.ensures.came) (c.steps.auto.q ∙ length-take-le (c.args.s * c.args.n) c.args.work.now (omega (arith, c.requires.1.room))), c.requires.6, go_fine c.args.n c.args.s c.args.k c.args.how.limit c.args.how.edition c.args.a.now c.args.v.now c.args.work.now c.requires.5 c.requires.1 (rw c.in-Ok.is at c.steps.ensures.came))

pub returns-in-Ok : goal.returns-in-Ok
returns-in-Ok c = go_goes c.args.n c.args.s c.args.k c.args.how.limit c.args.how.edition c.args.a.now c.args.v.now c.args.work.now c.requires.5 c.requires.1 (rw c.in-Ok.is at c.steps.ensures.came) (c.steps.auto.q ∙ length-take-le (c.args.s * c.args.n) c.args.work.now (omega (arith, c.requires.1.room))) c.solve_local.ensures
