use mathlib.Core.Path.{◌≡◌, ◌∙◌, sym, ap}
use Rattle.std.specs.Prelude.{Option, Some, None}
use Rattle.grid.specs.Real.{Vec}
use Rattle.leaves.specs.declared.Bad.{Bad}
use Rattle.eigen_steps.specs.ArraysLaws.{setting}
use Rattle.eigen_steps.specs.StepsLaws.{ended_with, begun_whole}
use Rattle.eigen_steps.specs.declared.EigenRun.{EigenRun}
use Rattle.eigen_steps.proofs.begin.Goals as goal

pub returns-in-Some : goal.returns-in-Some
returns-in-Some c =
    let x : Option Bad × Vec × Vec = (Some c.in-Some.bad, c.begin_run.new.work, c.begin_run.new.res) in
    let e : x ≡ setting c.args.n c.args.matrix.now = (λ i. (sym c.in-Some.is i, x.1, x.2)) ∙ c.begin_run.ensures in
    ap (λ (q : EigenRun). (q, x.1, x.2)) (c.ended.ensures ∙ (λ i. ended_with (c.new-q.ensures i) (c.answered.ensures i))) ∙ begun_whole c.args.n c.args.limit c.args.edition _ x e

pub returns-in-None : goal.returns-in-None
returns-in-None c =
    let x : Option Bad × Vec × Vec = (None, c.begin_run.new.work, c.begin_run.new.res) in
    let e : x ≡ setting c.args.n c.args.matrix.now = (λ i. (sym c.in-None.is i, x.1, x.2)) ∙ c.begin_run.ensures in
    ap (λ (q : EigenRun). (q, x.1, x.2)) c.new-q.ensures ∙ begun_whole c.args.n c.args.limit c.args.edition _ x e
