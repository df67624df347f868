use mathlib.Core.Path.{◌∙◌, ap}
use Rattle.grid.specs.Real.{Vec}
use Rattle.answers.specs.declared.Answer.{Answer}
use Rattle.text.specs.Writing.{written}
use Rattle.text_reply.specs.Reply.{shown_of}
use Rattle.text_reply.proofs.solve.Goals as goal

pub returns : goal.returns
returns c = c.write.ensures ∙ ap (λ (x : Answer × Vec × Vec). written (shown_of c.args.reading.n x) c.args.out.now) c.symmetric_eigen-a.ensures
