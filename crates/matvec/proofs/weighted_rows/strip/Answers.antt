use mathlib.Core.Path.{◌∙◌}
use Rattle.matvec.specs.Strips.{strip_none, strip_rows}
use Rattle.matvec.proofs.weighted_rows.strip.Goals as goal

pub returns : goal.returns
returns c =
    c.copy_from_slice-2.ensures.after
    ∙ strip_rows c.args.n c.args.a.now c.args.v.now c.args.j c.args.e c.args.c c.args.w.now _ c.requires.0
    (c.copy_from_slice.ensures.after ∙ strip_none c.args.n c.args.a.now c.args.v.now c.args.j c.args.c c.args.w.now c.requires.5) c.rows.ensures
