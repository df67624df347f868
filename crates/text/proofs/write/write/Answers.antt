use mathlib.Core.Path.{◌≡◌, ◌∙◌, sym, ap}
use Prim.Native.Nat.{ℕ}
use native.Mathlib.Omega.{arith}
use Rattle.text.specs.Stores.{line_put, answer_put, answer_length, shown_size, words_most}
use mathlib.Core.List.{List}
use Rattle.text.proofs.write.write.Goals as goal

place : {k m : ℕ} {l o : List ℕ} → ◌≡◌ {A = ℕ × List ℕ} (k, l) (m, o) → k ≡ m
place e = ap (λ (s : ℕ × List ℕ). s.0) e

pub returns-else-shown : goal.returns-else-shown
returns-else-shown c = line_put c.args.a.answer c.args.a.place c.args.a.index c.args.a.count c.args.n c.args.res.now c.args.out.now (c.put_answer-at.result, c.put_answer-at.new.out) (sym c.shown.ensures ∙ c.if-shown.false) c.put_answer-at.ensures

pub overflow_mul-n : goal.overflow_mul-n
overflow_mul-n c = omega (arith, words_most c.args.n (shown_size c.args.a.answer c.args.n (sym c.shown.ensures ∙ c.if-shown.true)).1)

pub overflow_add-n : goal.overflow_add-n
overflow_add-n c = omega (arith, words_most c.args.n (shown_size c.args.a.answer c.args.n (sym c.shown.ensures ∙ c.if-shown.true)).1)

pub put_lines-requires : goal.put_lines-requires
put_lines-requires c = omega (arith, place c.put_answer-at.ensures, answer_length c.args.a.answer c.args.a.place c.args.a.index c.args.a.count, shown_size c.args.a.answer c.args.n (sym c.shown.ensures ∙ c.if-shown.true), words_most c.args.n (shown_size c.args.a.answer c.args.n (sym c.shown.ensures ∙ c.if-shown.true)).1)

pub returns-then-shown : goal.returns-then-shown
returns-then-shown c = answer_put c.args.a.answer c.args.a.place c.args.a.index c.args.a.count c.args.n c.args.res.now c.args.out.now (c.put_answer-at.result, c.put_answer-at.new.out) (c.put_lines.result, c.put_lines.new.out) (sym c.shown.ensures ∙ c.if-shown.true) c.put_answer-at.ensures c.put_lines.ensures
