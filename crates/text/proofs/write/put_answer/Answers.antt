use mathlib.Core.Path.{◌≡◌, ap}
use Prim.Native.Nat.{ℕ}
use native.Mathlib.Omega.{arith}
use Rattle.text.specs.Writing.{number}
use Rattle.text.specs.Stores.{number_most, append_then}
use mathlib.Core.List.{List, ◌++◌}
use Rattle.text.proofs.write.put_answer.Goals as goal

place : {k m : ℕ} {l o : List ℕ} → ◌≡◌ {A = ℕ × List ℕ} (k, l) (m, o) → k ≡ m
place e = ap (λ (s : ℕ × List ℕ). s.0) e

pub put_number-at-requires-2 : goal.put_number-at-requires-2
put_number-at-requires-2 c = omega (arith, place c.put_number-at.ensures, number_most c.args.a.answer 32)

pub put_number-at-requires-3 : goal.put_number-at-requires-3
put_number-at-requires-3 c = omega (arith, place c.put_number-at.ensures, place c.put_number-at-2.ensures, number_most c.args.a.answer 32, number_most c.args.a.place 32)

pub put_number-requires : goal.put_number-requires
put_number-requires c = omega (arith, place c.put_number-at.ensures, place c.put_number-at-2.ensures, place c.put_number-at-3.ensures, number_most c.args.a.answer 32, number_most c.args.a.place 32, number_most c.args.a.index 32)

pub returns : goal.returns
returns c = append_then (0, c.args.out.now) (c.put_number-at-3.result, c.put_number-at-3.new.out) (c.put_number.result, c.put_number.new.out) (number c.args.a.answer 32 ++ number c.args.a.place 32 ++ number c.args.a.index 32) (number c.args.a.count 10) (append_then (0, c.args.out.now) (c.put_number-at-2.result, c.put_number-at-2.new.out) (c.put_number-at-3.result, c.put_number-at-3.new.out) (number c.args.a.answer 32 ++ number c.args.a.place 32) (number c.args.a.index 32) (append_then (0, c.args.out.now) (c.put_number-at.result, c.put_number-at.new.out) (c.put_number-at-2.result, c.put_number-at-2.new.out) (number c.args.a.answer 32) (number c.args.a.place 32) c.put_number-at.ensures c.put_number-at-2.ensures) c.put_number-at-3.ensures) c.put_number.ensures
