use Rattle.std.proofs.Common.{arith}
use Rattle.std.proofs.lemmas.Result.{err_from_is_err_and}
use Rattle.grid.specs.LoopLaws.{start}
use Rattle.lanczos_steps.proofs.Loop.{goes_on, ends, refused, begun, all_went}
use Rattle.lanczos_steps.proofs.steps.Goals as goal

pub loop-j-init : goal.loop-j-init
loop-j-init c = (λ e. (c.is_symmetric-symmetric.ensures.0 e).1, start _ _ _)

pub returns-in_err-step : goal.returns-in_err-step
returns-in_err-step c = let p = err_from_is_err_and c.from_residual.result c.from_residual.ensures.1 in record {
  came = rw (p.1, p.2) (refused c.args.n c.args.s c.args.a.now c.args.q.now c.args.t.now.alphas c.args.t.now.betas c.args.v.now c.loop-j.j c.loop-j.invariant.1 (omega arith) c.in_err-step.ensures);
  begun = rw (p.1, p.2) (begun c.args.n c.args.s c.args.a.now c.args.q.now c.args.t.now.alphas c.args.t.now.betas c.args.v.now c.loop-j.j c.loop-j.invariant.1 (omega arith) c.in_err-step.ensures);
}

pub returns-in-End : goal.returns-in-End
returns-in-End c = record { came = ends c.args.n c.args.s c.args.a.now c.args.q.now c.args.t.now.alphas c.args.t.now.betas c.args.v.now c.loop-j.j c.loop-j.invariant.1 (omega arith) (rw c.in-End.is at c.in_ok-step.ensures); begun = tt }

pub loop-j-preserved : goal.loop-j-preserved
loop-j-preserved c = (c.loop-j.invariant.0, goes_on c.args.n c.args.s c.args.a.now c.args.q.now c.args.t.now.alphas c.args.t.now.betas c.args.v.now c.loop-j.j c.loop-j.invariant.1 (rw c.in-Step.is at c.in_ok-step.ensures))

pub returns : goal.returns
returns c = record { came = all_went c.args.n c.args.s c.args.a.now c.args.q.now c.args.t.now.alphas c.args.t.now.betas c.args.v.now c.loop-j.j c.loop-j.invariant.1 (omega arith); begun = tt }
