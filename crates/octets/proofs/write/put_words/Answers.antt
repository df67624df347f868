use Rattle.std.proofs.Common.{◌∙◌, map, ap}
use Rattle.std.proofs.lemmas.List.{length-map}
use Rattle.octets.proofs.StoreLaws.{words_none, words_more, map_at}
use Rattle.octets.proofs.write.put_words.Goals as goal

pub loop-i-init : goal.loop-i-init
loop-i-init g c = words_none _ _ (map g.W.Word.word c.args.words.now)

pub loop-i-preserved : goal.loop-i-preserved
loop-i-preserved g c =
    let ws = c.args.words.now in
    let f = g.W.Word.word in
    words_more c.args.out.now c.loop-i.out c.put_eight.new.out c.args.at c.loop-i.i _ (map f ws) (rw (length-map ws f) c.loop-i-test.true)
    (c.word.ensures ∙ ap f c.index-words-i.is ∙ map_at f ws c.loop-i.i _ 0 c.loop-i-test.true) c.loop-i.invariant c.put_eight.ensures
