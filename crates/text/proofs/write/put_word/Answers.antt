use Rattle.text.specs.Writing.{bits_at}
use Rattle.text.specs.Stores.{group_put}
use Rattle.text.proofs.write.put_word.Goals as goal

pub returns : goal.returns
returns c = group_put c.args.out.now c.spell.new.out c.put.new.out c.args.at c.args.n c.args.k c.bits_at.result c.separator.result (bits_at c.args.res.now) c.bits_at.ensures c.separator.ensures c.spell.ensures c.put.ensures
