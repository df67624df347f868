use Rattle.root.proofs.Steps.{m_lt}
use Rattle.root.proofs.Radicand.of.Goals as goal

pub paired-requires : goal.paired-requires
paired-requires c = m_lt c.args.b c.requires.b_nonzero c.requires.b_bound _ c.significand.ensures
