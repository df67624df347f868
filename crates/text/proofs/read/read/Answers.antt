use Rattle.std.proofs.Common.{rules, ◌∙◌, sym}
use Rattle.text.specs.Reading.{reading}
use Rattle.text.specs.AcceptsLaws.{head_known}
use Rattle.text.proofs.read.read.Goals as goal

pub returns-in_err-head : goal.returns-in_err-head
unfolding reading
returns-in_err-head c = rw (← c.read_head.ensures, c.in_err-head.was) (search rules)

pub read_words-requires : goal.read_words-requires
read_words-requires c =
    let w = head_known c.args.t.now _ _ _ (sym c.read_head.ensures ∙ c.in_ok-head.was) in
    (w.near, w.size)

pub returns : goal.returns
unfolding reading
returns c = rw (← c.read_head.ensures, c.in_ok-head.was) c.read_words.ensures
