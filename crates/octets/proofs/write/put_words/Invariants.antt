use Rattle.std.proofs.Common.{◌≡◌, map, take}
use Rattle.std.proofs.lemmas.List.Edits.{sets}
use Rattle.octets.specs.Bytes.{words_bytes}
use Rattle.octets.proofs.write.put_words.Given as goal

abbrev pub invariant-loop-i : goal.invariant-loop-i
invariant-loop-i g l = l.out ≡ sets l.initial.out l.at (words_bytes (take l.i (map g.W.Word.word l.words)))
