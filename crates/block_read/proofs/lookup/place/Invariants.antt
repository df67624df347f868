use mathlib.Core.Path.{◌≡◌}
use Prim.Native.Nat.{◌+◌, ◌-◌, ◌*◌}
use Rattle.block_read.specs.Held.{place_in}
use Rattle.block_read.proofs.lookup.place.Given as goal

abbrev pub invariant-loop-i : goal.invariant-loop-i
invariant-loop-i l = place_in l.t (l.i-end - l.i) (12 + 12 * l.i) l.kind ≡ place_in l.t l.i-end 12 l.kind
