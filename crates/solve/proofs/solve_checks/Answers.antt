use mathlib.Core.Path.{◌∙◌}
use borrow.Author.Tests.{eq-eqb, ne_eqb}
use Rattle.solve.specs.Solve.{solve_checks}
use Rattle.answers.proofs.VerdictLaws.{passed_on}
use Rattle.solve.proofs.Checks.{stopped, passed_there, goes}
use Rattle.solve.proofs.solve_checks.Goals as goal

pub returns-in_err-parts : goal.returns-in_err-parts
unfolding solve_checks
returns-in_err-parts c = passed_on _ _ c.from_residual.ensures.1 ∙ stopped c.args.m c.args.n c.args.has_u c.args.has_vt _ c.parts.ensures c.in_err-parts.was

pub returns-then-b-m : goal.returns-then-b-m
unfolding solve_checks
returns-then-b-m c = rw (ne_eqb _ _ c.if-b-m.true) (goes _ _ _ _ _ (passed_there c.args.m c.args.n c.args.has_u c.args.has_vt c.parts.ensures c.in_ok-parts.was))

pub returns : goal.returns
unfolding solve_checks
returns c =
    c.fitting.ensures
    ∙ rw (eq-eqb _ _ c.if-b-m.false, c.decomposition_length-want.ensures) (goes _ _ _ _ _ (passed_there c.args.m c.args.n c.args.has_u c.args.has_vt c.parts.ensures c.in_ok-parts.was))
