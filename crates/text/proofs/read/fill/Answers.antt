use Rattle.std.proofs.Common.{List, ℕ, zero, suc, ◌≡◌, ◌∙◌, ◌+◌, ◌*◌, ◌<◌, refl, sym, ap, arith}
use Rattle.std.specs.Prelude.{Float, set}
use Rattle.std.proofs.lemmas.List.Edits.{sets}
use Rattle.grid.specs.LoopLaws.{every_at}
use Rattle.octets.specs.Bits.{float}
use Rattle.text.specs.Reading.{table, group_at}
use Rattle.text.specs.Laws.{some_is}
use Rattle.text.specs.Stores.{float_at, table_more}
use Rattle.text.proofs.read.fill.Goals as goal

some : (n k count : ℕ) → k < count → count ≡ n * n → 0 < n
some zero k count h e = omega arith
some (suc n) k count h e = omega arith

stored : (d l : List Float) (f : ℕ → Float) (k : ℕ) {m : List Float} {x : Float} → l ≡ sets d 0 (table f k) → x ≡ f k → m ≡ set l k x → m ≡ sets d 0 (table f (k + 1))
stored d l f k e g h = h ∙ rw (e, g) (table_more d f k)

pub loop-k-init : goal.loop-k-init
unfolding table
loop-k-init c = refl

pub group-requires : goal.group-requires
group-requires c = (some c.args.n c.loop-k.k c.args.count c.loop-k-test.true c.requires.2, omega arith, omega arith)

pub unwrap-requires : goal.unwrap-requires
unwrap-requires c = rw (c.group.ensures, every_at (group_at c.args.t.now c.args.n c.args.from) c.args.count c.loop-k.k c.requires.3 c.loop-k-test.true) refl

pub loop-k-preserved : goal.loop-k-preserved
loop-k-preserved c =
    stored c.args.matrix.now c.loop-k.matrix (float_at c.args.t.now c.args.from) c.loop-k.k c.loop-k.invariant (c.float.ensures ∙ ap float (some_is _ _ _ (sym c.group.ensures ∙ c.unwrap.ensures)).1) c.put.ensures
