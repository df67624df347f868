use Rattle.std.proofs.Common.{sym, arith, map, length}
use Rattle.std.proofs.lemmas.List.{length-map}
use Rattle.block_write.specs.PutLaws.{counts_next, numbers_next, numbers_done}
use Rattle.block_write.proofs.put_numbers.Goals as goal

pub put_words-requires : goal.put_words-requires
put_words-requires g c = omega (arith, counts_next c.args.parts.now c.loop-numbers.numbers-index c.loop-numbers.next c.loop-numbers-item.result c.loop-numbers-test.true c.loop-numbers-item.is (λ p. length p.1.now) _ c.loop-numbers.invariant.within)

pub overflow_mul-next : goal.overflow_mul-next
overflow_mul-next g c = omega (arith, counts_next c.args.parts.now c.loop-numbers.numbers-index c.loop-numbers.next c.loop-numbers-item.result c.loop-numbers-test.true c.loop-numbers-item.is (λ p. length p.1.now) _ c.loop-numbers.invariant.within)

pub overflow_add-next : goal.overflow_add-next
overflow_add-next g c = omega (arith, counts_next c.args.parts.now c.loop-numbers.numbers-index c.loop-numbers.next c.loop-numbers-item.result c.loop-numbers-test.true c.loop-numbers-item.is (λ p. length p.1.now) _ c.loop-numbers.invariant.within)

pub loop-numbers-preserved : goal.loop-numbers-preserved
loop-numbers-preserved g c = record {
  within = counts_next c.args.parts.now c.loop-numbers.numbers-index c.loop-numbers.next c.loop-numbers-item.result c.loop-numbers-test.true c.loop-numbers-item.is (λ p. length p.1.now) _ c.loop-numbers.invariant.within;
  put = numbers_next c.args.parts.now c.loop-numbers.numbers-index c.loop-numbers.next c.loop-numbers-item.result c.loop-numbers-test.true c.loop-numbers-item.is (λ p. (p.0, map g.W.Word.word p.1.now)) c.loop-numbers.out c.put_words.new.out _ (sym (length-map c.loop-numbers-item.result.1.now g.W.Word.word)) c.put_words.ensures c.loop-numbers.invariant.put;
}

pub returns : goal.returns
returns g c = numbers_done c.args.parts.now c.loop-numbers.numbers-index _ (λ p. (p.0, map g.W.Word.word p.1.now)) c.loop-numbers.out c.loop-numbers-test.false c.loop-numbers.invariant.put
