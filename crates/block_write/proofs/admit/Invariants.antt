use Rattle.std.proofs.Common.{◌≡◌, drop}
use Rattle.block_write.specs.Writing.{heads_answer}
use Rattle.block_write.proofs.admit.Given as goal

abbrev pub invariant-loop-kind : goal.invariant-loop-kind
invariant-loop-kind l = heads_answer l.header.rows l.header.columns l.last (drop l.kind-index l.heads) ≡ heads_answer l.header.rows l.header.columns 0 l.heads
