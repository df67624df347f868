use Rattle.std.proofs.Common.{true, false, ℕ, zero, suc, ◌*◌, ◌<◌, ◌≡◌, ◌∙◌, ap, sym, arith}
use Rattle.std.specs.Option.{is_some}
use Rattle.text.specs.Laws.{is_some_of}
use Rattle.grid.specs.LoopLaws.{every_none, every_more, every_fails}
use Rattle.text.specs.Reading.{group_at}
use Rattle.text.proofs.read.groups_good.Goals as goal

some : (n k count : ℕ) → k < count → count ≡ n * n → 0 < n
some zero k count h e = omega arith
some (suc n) k count h e = omega arith

pub loop-k-init : goal.loop-k-init
loop-k-init c = every_none _

pub group-requires : goal.group-requires
group-requires c = (some c.args.n c.loop-k.k c.args.count c.loop-k-test.true c.requires.2, omega arith, omega arith)

pub returns-then-is_none : goal.returns-then-is_none
returns-then-is_none c =
    let f : group_at c.args.t.now c.args.n c.args.from c.loop-k.k ≡ false = sym (is_some_of _ _) ∙ ap is_some (sym c.group.ensures) ∙ c.if-is_none.ensures in
    sym (every_fails (group_at c.args.t.now c.args.n c.args.from) c.args.count c.loop-k.k c.loop-k-test.true f)

pub loop-k-preserved : goal.loop-k-preserved
loop-k-preserved c =
    let f : group_at c.args.t.now c.args.n c.args.from c.loop-k.k ≡ true = sym (is_some_of _ _) ∙ ap is_some (sym c.group.ensures) ∙ c.if-is_none.ensures in
    every_more (group_at c.args.t.now c.args.n c.args.from) c.loop-k.k c.loop-k.invariant f
