use Rattle.lanczos_pairs.specs.RitzPairsLaws.{sum_is_ritz}
use Rattle.lanczos_pairs.proofs.ritz_pairs.sum_of.Goals as goal

pub returns : goal.returns
returns c = sum_is_ritz c.args.n c.args.m c.args.q.now c.args.vecs.now c.args.c c.column_of.ensures c.sum.ensures
