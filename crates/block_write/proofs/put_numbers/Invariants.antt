use Rattle.std.proofs.Common.{◌≡◌, ◌+◌, ◌≤◌, map, drop, length}
use Rattle.std.proofs.lemmas.List.Edits.{sets}
use Rattle.block_read.specs.Content.{numbers_bytes}
use Rattle.block_write.specs.PutLaws.{bytes_of}
use Rattle.block_write.proofs.put_numbers.Given as goal

abbrev pub invariant-loop-numbers : goal.invariant-loop-numbers
invariant-loop-numbers g l =
    record {
      within : l.next + bytes_of (map (λ p. length p.1.now) (drop l.numbers-index l.parts)) ≤ length l.initial.out;
      put : sets l.out l.next (numbers_bytes (map (λ p. (p.0, map g.W.Word.word p.1.now)) (drop l.numbers-index l.parts)))
          ≡ sets l.initial.out l.at (numbers_bytes (map (λ p. (p.0, map g.W.Word.word p.1.now)) l.parts));
    }
