use Rattle.std.proofs.Common.{ℕ, ◌≡◌, ◌∙◌, ap, arith}
use Rattle.std.proofs.lemmas.List.Edits.{sets}
use Rattle.text.specs.Writing.{lines, bits_at}
use Rattle.text.specs.Stores.{lines_none, lines_put, lines_end}
use Rattle.text.proofs.write.put_lines.Goals as goal

pub loop-k-init : goal.loop-k-init
loop-k-init c = lines_none _ _ _ _

pub loop-k-preserved : goal.loop-k-preserved
loop-k-preserved c = lines_put c.args.out.now c.loop-k.out c.put_word.new.out c.args.at c.args.n c.loop-k.k (bits_at c.args.res.now) c.loop-k.invariant c.put_word.ensures

pub returns : goal.returns
returns c =
    let e : c.loop-k.k ≡ c.args.count = omega (arith, c.loop-k-test.false) in
    lines_end c.args.out.now c.loop-k.out c.args.at c.args.n c.args.count (bits_at c.args.res.now)
    (c.loop-k.invariant ∙ ap (λ (m : ℕ). sets c.args.out.now c.args.at (lines c.args.n (bits_at c.args.res.now) m)) e)
