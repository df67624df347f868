use Rattle.std.proofs.Common.{◌≡◌, ◌+◌, ◌*◌, ◌≤◌, drop, length}
use Rattle.std.proofs.lemmas.List.Edits.{sets}
use Rattle.block_read.specs.Content.{entries_bytes}
use Rattle.block_write.specs.PutLaws.{bytes_of, head_counts}
use Rattle.block_write.proofs.put_entries.put_entries.Given as goal

abbrev pub invariant-loop-i : goal.invariant-loop-i
invariant-loop-i l =
    record {
      within : l.next + bytes_of (head_counts (drop l.i l.heads)) ≤ length l.initial.out;
      put : sets l.out (12 + 12 * l.i) (entries_bytes l.next (drop l.i l.heads)) ≡ sets l.initial.out 12 (entries_bytes l.off l.heads);
    }
