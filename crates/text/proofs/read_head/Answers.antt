use Rattle.std.proofs.Common.{◌∙◌, sym, arith}
use Rattle.text.specs.Numbers.{number_near}
use Rattle.text.proofs.read_head.Goals as goal

pub read_number-requires-2 : goal.read_number-requires-2
read_number-requires-2 c = number_near c.args.t.now 32 _ _ (omega arith) (sym c.read_number.ensures ∙ c.in_ok-size.was)
