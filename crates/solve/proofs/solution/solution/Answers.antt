use Rattle.solve.proofs.solution.Sums.{solution_by}
use Rattle.solve.proofs.solution.solution.Goals as goal

pub returns : goal.returns
returns c = solution_by c.args.p.m c.args.p.r c.args.p.n c.args.tolerance c.args.p.s.now c.args.p.u.now c.args.p.vt.now c.args.b.now c.column_sums.ensures c.coefficients.ensures c.column_sums-2.ensures
