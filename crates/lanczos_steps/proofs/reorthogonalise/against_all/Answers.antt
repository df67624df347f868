use Rattle.std.proofs.Common.{◌≡◌, length, arith}
use Rattle.lanczos_steps.specs.AgainstLaws.{against_none, against_whole}
use Rattle.lanczos_steps.proofs.reorthogonalise.against_all.Goals as goal

pub returns-then-j-eq0 : goal.returns-then-j-eq0
returns-then-j-eq0 c = against_none c.args.n c.args.j c.args.q.now c.args.v.now c.args.w.now _ c.if-j-eq0.true (rw c.requires.3 at c.lessen.ensures)

pub returns : goal.returns
returns c =
    let long : length c.past-p.new.w ≡ c.args.n = omega arith in
    let still : length c.add_dot-r.new.w ≡ c.args.n = omega arith in
    against_whole c.args.n c.args.q.now c.args.w.now c.args.j _ _ c.args.v.now _ _ _ _ (omega arith) c.row.ensures.0 c.past-p.ensures (rw long at c.add_dot-r.ensures) (rw still at c.add.ensures)
