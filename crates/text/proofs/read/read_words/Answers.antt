use mathlib.Core.Path.{◌∙◌, refl, sym}
use Prim.Native.Nat.{◌+◌, ◌*◌}
use native.Mathlib.Omega.{arith}
use Rattle.text.specs.Reading.{words_read, word_at}
use Rattle.octets.specs.Bits.{float}
use Rattle.text.specs.Stores.{table_map}
use borrow.Author.Tests.{eq-eqb, ne_eqb, not-true, not-false}
use native.Mathlib.Nat.{mul-le-mul}
use Rattle.std.proofs.Common.{ap, not}
use Rattle.text.proofs.read.read_words.Goals as goal

pub overflow_mul-count : goal.overflow_mul-count
overflow_mul-count c = omega (arith, mul-le-mul c.requires.1 c.requires.1)

pub overflow_mul-count-2 : goal.overflow_mul-count-2
overflow_mul-count-2 c = omega (arith, mul-le-mul c.requires.1 c.requires.1)

pub overflow_add-from : goal.overflow_add-from
overflow_add-from c = omega (arith, mul-le-mul c.requires.1 c.requires.1)

pub returns-then-t-from : goal.returns-then-t-from
unfolding words_read
returns-then-t-from c = rw (ne_eqb _ _ c.if-t-from.true)

pub groups_good-requires : goal.groups_good-requires
groups_good-requires c = (omega arith, mul-le-mul c.requires.1 c.requires.1, refl)

pub returns-then-not-groups_good : goal.returns-then-not-groups_good
unfolding words_read
returns-then-not-groups_good c = rw (eq-eqb _ _ c.if-t-from.false, ← c.groups_good.ensures, not-true c.groups_good.result (ap not c.if-not-groups_good.true))

pub fill-requires : goal.fill-requires
fill-requires c = (omega arith, mul-le-mul c.requires.1 c.requires.1, refl, sym c.groups_good.ensures ∙ not-false c.groups_good.result (ap not c.if-not-groups_good.false))

pub returns : goal.returns
unfolding words_read
returns c = rw (eq-eqb _ _ c.if-t-from.false, ← c.groups_good.ensures, not-false c.groups_good.result (ap not c.if-not-groups_good.false)) (rw (c.fill.ensures, table_map float (λ k. word_at c.args.t.now (c.args.head.next + 17 * k)) (c.args.head.n * c.args.head.n)))
