use mathlib.Core.Path.{◌∙◌, ap}
use Prim.Native.Nat.{ℕ}
use mathlib.Core.List.{List}
use Rattle.grid.specs.Real.{zeros}
use Rattle.text.specs.Writing.{written}
use Rattle.text_reply.specs.ReplyLaws.{counts, is_good, is_bad_lem}
use lib.Dec.{lit≤}
use Rattle.text_reply.proofs.reply.Goals as goal

pub solve_front-requires : goal.solve_front-requires
solve_front-requires c = ((is_good c.args.t.now (zeros 1024) c.read.new.matrix c.read.result _ _ (lit≤ tt) c.read.ensures c.in-Some.is).size, (is_good c.args.t.now (zeros 1024) c.read.new.matrix c.read.result _ _ (lit≤ tt) c.read.ensures c.in-Some.is).room)

pub returns-in-Some-clause-out_after : goal.returns-in-Some-clause-out_after
returns-in-Some-clause-out_after c = c.solve_front.ensures ∙ ap (λ (x : List ℕ). written x c.args.out.now) (is_good c.args.t.now (zeros 1024) c.read.new.matrix c.read.result _ _ (lit≤ tt) c.read.ensures c.in-Some.is).answer

pub returns-in-None-clause-out_after : goal.returns-in-None-clause-out_after
returns-in-None-clause-out_after c = c.write_bad.ensures ∙ ap (λ (x : List ℕ). written x c.args.out.now) (is_bad_lem c.args.t.now (zeros 1024) c.read.new.matrix c.read.result c.read.ensures c.in-None.is)

pub returns-in-Some-clause-upper_bound : goal.returns-in-Some-clause-upper_bound
returns-in-Some-clause-upper_bound c h = (counts c.args.t.now c.args.out.now c.solve_front.new.out c.solve_front.result h (returns-in-Some-clause-out_after c)).0

pub returns-in-None-clause-upper_bound : goal.returns-in-None-clause-upper_bound
returns-in-None-clause-upper_bound c h = (counts c.args.t.now c.args.out.now c.write_bad.new.out c.write_bad.result h (returns-in-None-clause-out_after c)).0
