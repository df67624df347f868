use Rattle.std.proofs.Common.{rules, Some, ◌∙◌, sym, ap, eq-eqb, ne_eqb}
use Rattle.text.specs.Reading.{group_at}
use Rattle.text.specs.Laws.{some_is, none_is}
use Rattle.text.proofs.read.group.Goals as goal

pub returns-in_err-w : goal.returns-in_err-w
unfolding group_at
returns-in_err-w c = rw (none_is _ _ (sym c.word.ensures ∙ c.in_err-w.was)) (search rules)

pub returns-then-byte-separator : goal.returns-then-byte-separator
unfolding group_at
returns-then-byte-separator c = rw ((some_is _ _ _ (sym c.word.ensures ∙ c.in_ok-w.was)).0, ← c.byte.ensures, ← c.separator.ensures, ne_eqb _ _ c.if-byte-separator.true)

pub returns : goal.returns
unfolding group_at
returns c = rw ((some_is _ _ _ (sym c.word.ensures ∙ c.in_ok-w.was)).0, ← c.byte.ensures, ← c.separator.ensures, eq-eqb _ _ c.if-byte-separator.false) (ap Some (some_is _ _ _ (sym c.word.ensures ∙ c.in_ok-w.was)).1)
