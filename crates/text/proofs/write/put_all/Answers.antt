use Rattle.std.proofs.Common.{◌∙◌, ap, List, ℕ, ◌+◌}
use Rattle.std.specs.Prelude.{set, get_or}
use Rattle.text.specs.Stores.{sets_taken}
use Rattle.text.proofs.write.put_all.Goals as goal

pub loop-i-preserved : goal.loop-i-preserved
loop-i-preserved c =
    c.put.ensures ∙ ap (λ (l : List ℕ). set l (c.args.at + c.loop-i.i) (get_or c.args.bytes.now c.loop-i.i 0)) c.loop-i.invariant
    ∙ sets_taken c.args.out.now c.args.at c.loop-i.i c.args.bytes.now 0 c.loop-i-test.true
