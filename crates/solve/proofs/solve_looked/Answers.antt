use mathlib.Core.Path.{◌≡◌, ◌∙◌}
use Rattle.solve.specs.Solution.{solution}
use Rattle.solve.proofs.solve_looked.Goals as goal

pub returns : goal.returns
unfolding solution
returns c =
    let p = c.parts_of-p.ensures in
    let x : c.solution.new.x ≡ solution c.args.m c.args.n c.args.tolerance c.args.d.now c.args.b.now = c.solution.ensures ∙ rw (p.sizes.0, p.sizes.1, p.sizes.2, p.s, p.u, p.vt) in
    rw (← x) c.look.ensures
