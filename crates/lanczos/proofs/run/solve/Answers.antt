use mathlib.Core.Path.{◌∙◌, ap}
use lib.ListN.{length}
use borrow.Author.Tests.{eq-eqb, ne_eqb}
use lib.ListN.{length-replicate}
use Rattle.grid.specs.Real.{zero64}
use Rattle.lanczos.proofs.run.Parts.{solve_stops, solve_goes, part_long}
use Rattle.lanczos.proofs.run.solve.Goals as goal

pub returns-then-r-ne0 : goal.returns-then-r-ne0
returns-then-r-ne0 c = solve_stops c.args.n c.args.s c.args.k c.args.m c.args.how.limit c.args.how.edition c.args.t.now.alphas c.args.t.now.betas c.args.work.now c.args.d.now c.args.e.now c.args.how.called c.requires.0 c.requires.1 c.requires.2 c.requires.3 c.requires.5 c.small-r.ensures _ c.requires.4 (ne_eqb _ 0 c.if-r-ne0.true)

pub returns : goal.returns
returns c = solve_goes c.args.n c.args.s c.args.k c.args.m c.args.how.limit c.args.how.edition c.args.t.now.alphas c.args.t.now.betas c.args.work.now c.args.d.now c.args.e.now c.args.how.called c.requires.0 c.requires.1 c.requires.2 c.requires.3 c.requires.5 c.small-r.ensures _ c.requires.4 (eq-eqb _ 0 c.if-r-ne0.false) (c.small-r.auto.d ∙ ap length c.requires.2 ∙ length-replicate c.args.m zero64) (c.small-r.auto.t ∙ part_long c.args.n c.args.s c.args.m c.args.work.now c.requires.0) c.choose.ensures
