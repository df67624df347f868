use mathlib.Core.Path.{◌≡◌, sym, ◌∙◌}
use Prim.Native.Nat.{◌+◌, ◌*◌, ◌≤◌}
use lib.ListN.{length}
use native.Mathlib.Omega.{arith}
use Rattle.octets.specs.Bytes.{num}
use Rattle.block_read.specs.declared.header.Header.{Header}
use Rattle.block_read.specs.CheckLaws.{passes, at_ok}
use Rattle.block_read.specs.LookupLaws.{span_room}
use Rattle.block_read.proofs.lookup.span_of.Goals as goal

room : (c : goal.After-size) → c.in_ok-at.at + 8 * c.size.result ≤ length c.args.t.now
room c =
    let t = c.args.t.now in
    let e = sym c.in_ok-header.ensures.value in
    let P : Header → Type 0 = λ h. (h.rows ≡ num 4 t 0) × (h.columns ≡ num 4 t 4) × (h.parts ≡ num 4 t 8) in
    span_room t _ _ _ c.args.kind _ _ (sym c.taken.ensures.answer ∙ passes c.taken.result e) (at_ok P c.taken.result e c.taken.ensures.is) c.size.ensures c.in_ok-at.ensures

pub overflow_mul-result : goal.overflow_mul-result
overflow_mul-result c = omega (arith, room c)

pub overflow_add-result : goal.overflow_add-result
overflow_add-result c = omega (arith, room c)

pub returns-clause-within : goal.returns-clause-within
returns-clause-within c = (omega arith, room c)
