use Rattle.std.proofs.Common.{◌≡◌, ◌∙◌, ◌+◌, ◌*◌, sym, arith}
use Rattle.text_tiles_definition.proofs.StepLaws.{most_low, grown_on, grown_over}
use Rattle.text_tiles.proofs.read.grow.Goals as goal

pub returns-then-value-most_of : goal.returns-then-value-most_of
returns-then-value-most_of c =
    c.end.ensures ∙ sym (grown_over c.args.s.now c.args.d (omega (arith, c.saturating_mul.ensures, c.saturating_add-value.ensures, c.most_of.ensures, c.if-value-most_of.true)))

pub returns-else-value-most_of : goal.returns-else-value-most_of
returns-else-value-most_of c =
    let m = most_low c.args.s.now.stage in
    let v : c.saturating_add-value.result ≡ c.args.s.now.value * 10 + c.args.d =
    omega (arith, c.saturating_mul.ensures, c.saturating_add-value.ensures, c.most_of.ensures, c.if-value-most_of.false) in
    rw v (sym (grown_on c.args.s.now c.args.d (omega (arith, c.most_of.ensures, c.if-value-most_of.false))))
