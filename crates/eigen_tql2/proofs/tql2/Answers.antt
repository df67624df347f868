use mathlib.Core.Path.{ap, ◌∙◌}
use Rattle.grid.specs.Real.{Vec}
use Rattle.eigen_tql2.specs.LStartEnd.{fresh}
use Rattle.eigen_tql2.specs.RunOverL.{run}
use Rattle.eigen_tql2.specs.Finish.{ql_finished}
use Rattle.eigen_tql2.specs.Tql2.{tql2}
use Rattle.eigen_tql2.proofs.tql2.Goals as goal

pub returns : goal.returns
unfolding tql2
returns c = c.finish.ensures _ ∙ ap (ql_finished c.args.n) (c.run-r.ensures ∙ ap (λ (x : Vec). run c.args.n c.args.limit c.args.edition (fresh, c.args.v.now, c.args.d.now, x)) c.move_up.ensures)
