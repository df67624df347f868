use mathlib.Core.Path.{◌≡◌}
use Prim.Native.Nat.{◌+◌, ◌-◌, ◌*◌, ◌≤◌}
use Rattle.block_read.specs.Reading.{entries}
use Rattle.block_read.proofs.entries.Given as goal

abbrev pub invariant-loop-i : goal.invariant-loop-i
invariant-loop-i l =
    (l.off ≤ 64 + 524288 * l.i)
    × (entries l.t l.header.rows l.header.columns (l.header.parts - l.i) (12 + 12 * l.i) l.last l.off
    ≡ entries l.t l.header.rows l.header.columns l.header.parts 12 0 (12 + 12 * l.header.parts))
