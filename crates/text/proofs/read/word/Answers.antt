use Rattle.std.proofs.Common.{rules, ◌≡◌, ◌∙◌, List, ℕ, ◌*◌, ◌^◌, Option, Some, None, ◌+◌, ◌<◌, true, false, sym, ap, refl, arith}
use Rattle.std.specs.Prelude.{ltb}
use Rattle.std.proofs.Common.{ltb-true}
use Rattle.octets.specs.Bytes.{byte}
use Rattle.grid.specs.Loop.{every}
use Rattle.grid.specs.LoopLaws.{every_none, every_more, every_fails}
use Rattle.text.specs.Reading.{value, digit_of, digit_at, value_at, word_at, horner}
use Rattle.text.specs.Laws.{some_is, none_is, horner_more, horner_room}
use Rattle.text.proofs.read.word.Goals as goal

good : (t : List ℕ) (at i b d : ℕ) {r : Option ℕ} → b ≡ byte t (at + i) → r ≡ digit_of b → r ≡ Some d → (digit_at t at i ≡ true) × (d ≡ value_at t at i)
good t at i b d e f g = rw e at (some_is (ltb (value b) 16) (value b) d (sym f ∙ g))

bad : (t : List ℕ) (at i b : ℕ) {r : Option ℕ} → b ≡ byte t (at + i) → r ≡ digit_of b → r ≡ None → digit_at t at i ≡ false
bad t at i b e f g = rw e at (none_is (ltb (value b) 16) (value b) (sym f ∙ g))

pub loop-i-init : goal.loop-i-init
unfolding horner
loop-i-init c = record { digits = every_none _; so_far = refl }

pub returns-in_err-digit : goal.returns-in_err-digit
returns-in_err-digit c =
    let f : every (digit_at c.args.t.now c.args.at) 16 ≡ false = every_fails (digit_at c.args.t.now c.args.at) 16 c.loop-i.i c.loop-i-test.true (bad c.args.t.now c.args.at c.loop-i.i c.byte.result c.byte.ensures c.value.ensures c.in_err-digit.was) in
    rw f (search rules)

room : (t : List ℕ) (at i w : ℕ) → every (digit_at t at) i ≡ true → w ≡ horner (value_at t at) i → digit_at t at i ≡ true → i < 16 → w * 16 + value_at t at i < 2 ^ 64
room t at i w e f g h = rw f (horner_room t at i e (ltb-true (value_at t at i) 16 g) h)

pub overflow_mul-w : goal.overflow_mul-w
overflow_mul-w c =
    let g = good c.args.t.now c.args.at c.loop-i.i c.byte.result c.in_ok-digit.digit c.byte.ensures c.value.ensures c.in_ok-digit.was in
    omega (arith, room c.args.t.now c.args.at c.loop-i.i c.loop-i.w c.loop-i.invariant.digits c.loop-i.invariant.so_far g.0 c.loop-i-test.true)

pub overflow_add-w : goal.overflow_add-w
overflow_add-w c =
    let g = good c.args.t.now c.args.at c.loop-i.i c.byte.result c.in_ok-digit.digit c.byte.ensures c.value.ensures c.in_ok-digit.was in
    omega (arith, g.1, room c.args.t.now c.args.at c.loop-i.i c.loop-i.w c.loop-i.invariant.digits c.loop-i.invariant.so_far g.0 c.loop-i-test.true)

pub loop-i-preserved : goal.loop-i-preserved
loop-i-preserved c =
    let g = good c.args.t.now c.args.at c.loop-i.i c.byte.result c.in_ok-digit.digit c.byte.ensures c.value.ensures c.in_ok-digit.was in
    record {
      digits = every_more (digit_at c.args.t.now c.args.at) c.loop-i.i c.loop-i.invariant.digits g.0;
      so_far = rw (c.loop-i.invariant.so_far, g.1) (horner_more (value_at c.args.t.now c.args.at) c.loop-i.i);
    }

pub returns : goal.returns
unfolding word_at
returns c =
    let e : c.loop-i.i ≡ 16 = omega (arith, c.loop-i-test.false) in
    rw (rw e at c.loop-i.invariant.digits) (ap Some (rw e at c.loop-i.invariant.so_far))
