use Rattle.std.proofs.Common.{◌∙◌, sym, ap, List}
use Rattle.block_read.specs.Content.{Part}
use Rattle.block_write.specs.Writing.{written, doubles}
use Rattle.block_write.specs.PutLaws.{given_taken}
use Rattle.block_write.proofs.write_doubles.Goals as goal

pub returns : goal.returns
returns c = c.put.ensures ∙ ap (λ (ps : List Part). written c.args.rows c.args.columns c.args.count ps c.args.out.now) (sym (given_taken c.args.count (doubles c.args.k1 c.args.p1.now) (doubles c.args.k2 c.args.p2.now) (doubles c.args.k3 c.args.p3.now)))
