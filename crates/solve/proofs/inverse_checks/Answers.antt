use mathlib.Core.Path.{◌∙◌}
use Rattle.solve.specs.Solve.{inverse_checks}
use Rattle.answers.proofs.VerdictLaws.{passed_on}
use Rattle.solve.proofs.Checks.{stopped, passed_there, goes}
use Rattle.solve.proofs.inverse_checks.Goals as goal

pub returns-in_err-parts : goal.returns-in_err-parts
unfolding inverse_checks
returns-in_err-parts c = passed_on _ _ c.from_residual.ensures.1 ∙ stopped c.args.m c.args.n c.args.has_u c.args.has_vt _ c.parts.ensures c.in_err-parts.was

pub returns : goal.returns
unfolding inverse_checks
returns c =
    c.fitting.ensures
    ∙ rw c.decomposition_length-want.ensures (goes _ _ _ _ _ (passed_there c.args.m c.args.n c.args.has_u c.args.has_vt c.parts.ensures c.in_ok-parts.was))
