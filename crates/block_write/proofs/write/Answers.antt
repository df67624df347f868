use Rattle.std.proofs.Common.{◌∙◌, ap, List}
use Rattle.block_read.specs.Content.{Part}
use Rattle.block_write.specs.Writing.{written}
use Rattle.block_write.specs.PutLaws.{given_words}
use Rattle.block_write.proofs.write.Goals as goal

pub returns : goal.returns
returns c = c.put.ensures ∙ ap (λ (ps : List Part). written c.args.rows c.args.columns c.args.count ps c.args.out.now) (given_words _ c.args.k1 c.args.p1.now c.args.k2 c.args.p2.now c.args.k3 c.args.p3.now)
