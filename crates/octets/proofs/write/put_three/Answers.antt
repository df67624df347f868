use Rattle.octets.proofs.StoreLaws.{three_put}
use Rattle.octets.proofs.write.put_three.Goals as goal

pub returns : goal.returns
returns c = three_put c.args.out.now c.put_four.new.out c.put_four-2.new.out c.put_four-3.new.out c.args.at c.args.a c.args.b c.args.c c.put_four.ensures c.put_four-2.ensures c.put_four-3.ensures
