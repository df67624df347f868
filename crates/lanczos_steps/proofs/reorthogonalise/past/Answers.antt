use Rattle.std.proofs.Common.{◌≡◌, length, ap, ◌∙◌, arith}
use Rattle.gram_schmidt.specs.Gram.{dot}
use Rattle.lanczos_steps.specs.AgainstLaws.{passed_none, passed_more}
use Rattle.lanczos_steps.proofs.reorthogonalise.past.Goals as goal

pub loop-i-init : goal.loop-i-init
loop-i-init c = passed_none c.args.n c.args.q.now c.args.w.now (rw c.row.ensures.1 at c.dot-p.ensures ∙ ap (dot c.args.n c.args.w.now) c.row.ensures.0)

pub loop-i-preserved : goal.loop-i-preserved
loop-i-preserved c =
    let long : length c.loop-i.w ≡ c.args.n = omega arith in
    passed_more c.args.n c.args.q.now c.args.w.now c.loop-i.i _ _ _ _ _ _ c.row-in-loop-i.ensures.0 c.row-in-loop-i-2.ensures.0 c.loop-i.invariant (rw long at c.add_dot-p.ensures)
