use mathlib.Core.Path.{◌∙◌}
use native.Mathlib.Omega.{arith}
use borrow.Author.Tests.{lt-ltb, le-ltb}
use Rattle.eigen_tql2.specs.LStartEndBounds.{one_pass}
use Rattle.eigen_tql2_step.specs.Advance.{step}
use Rattle.eigen_tql2_step.specs.SkipSettledLaws.{found_ready, room}
use Rattle.eigen_tql2_step.proofs.advance.Goals as goal

pub pass-t-requires : goal.pass-t-requires
pass-t-requires c = let f = found_ready _ _ _ _ _ _ _ _ _ (c.find-q.ensures c.args.v.now) c.requires.2 in let r = room _ _ _ c.requires.0 c.requires.1 f.0 in (f.1 c.if-q-n.true, f.0.within, r.0, r.1, record { square = c.requires.3.square; diagonal = c.find-q.auto.d ∙ c.requires.3.diagonal; beside = c.find-q.auto.e ∙ c.requires.3.beside })

pub decide-requires : goal.decide-requires
decide-requires c = omega (arith, (one_pass _ _ _ _ c.pass-t.ensures).l, c.if-q-n.true, c.pass-t.auto, c.find-q.auto, c.requires)

pub returns-then-q-n : goal.returns-then-q-n
unfolding step
returns-then-q-n c = rw (← c.find-q.ensures c.args.v.now, lt-ltb _ _ c.if-q-n.true, ← c.pass-t.ensures) (c.decide.ensures _)

pub returns : goal.returns
unfolding step
returns c = rw (← c.find-q.ensures c.args.v.now, le-ltb _ _ c.if-q-n.false)
