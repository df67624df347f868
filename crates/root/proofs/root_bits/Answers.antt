use Rattle.std.proofs.Common.{arith}
use Rattle.root.proofs.Steps.{n_in, room, bits_are}
use Rattle.root.proofs.root_bits.Goals as goal

pub digits-requires : goal.digits-requires
digits-requires c = (omega arith, omega (arith, n_in c.args.b c.requires.b_nonzero c.requires.b_bound _ c.of-a.ensures), omega arith)

pub pattern-requires : goal.pattern-requires
pattern-requires c = room c.args.b c.requires.b_nonzero c.requires.b_bound _ _ c.of-a.ensures c.digits.ensures

pub returns : goal.returns
returns c = bits_are c.args.b c.requires.b_nonzero c.requires.b_bound _ _ _ c.of-a.ensures c.digits.ensures c.pattern.ensures
