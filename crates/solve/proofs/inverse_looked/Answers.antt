use mathlib.Core.Path.{◌≡◌, ◌∙◌}
use Rattle.solve.specs.PseudoInverse.{inverted}
use Rattle.solve.proofs.inverse_looked.Goals as goal

pub returns : goal.returns
unfolding inverted
returns c =
    let p = c.parts_of-p.ensures in
    let x : c.inverted.new.x ≡ inverted c.args.m c.args.n c.args.tolerance c.args.d.now = c.inverted.ensures ∙ rw (p.sizes.0, p.sizes.1, p.sizes.2, p.s, p.u, p.vt) in
    rw (← x) c.look.ensures
