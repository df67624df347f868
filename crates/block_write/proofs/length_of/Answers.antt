use Rattle.std.proofs.Common.{◌≡◌, ◌∙◌, sym, take, List, [], ◌∷◌, ℕ}
use Rattle.std.proofs.lemmas.List.{length-take-le}
use Rattle.block_read.specs.CheckLaws.{no_refusal, dimensions_good}
use Rattle.block_write.specs.Writing.{given}
use Rattle.block_write.specs.PutLaws.{sized, checked_refused, checked_heads, heads_fit, sized_taken, length_refused, length_passed}
use Rattle.block_write.proofs.length_of.Goals as goal

pub returns-in_default : goal.returns-in_default
returns-in_default c = length_refused _ _ _ c.args.k1 c.args.k2 c.args.k3 (checked_refused c.args.rows c.args.columns c.args.count _ c.in_default.ensures.answer (no_refusal c.in_default.field-0)) (no_refusal c.in_default.field-0)

pub length_with-requires : goal.length_with-requires
length_with-requires c =
    let few = (dimensions_good c.args.rows c.args.columns c.args.count (sym c.in-Ok.ensures.answer)).few in
    heads_fit _ _ _ _ c.in-Ok.header.high c.in-Ok.header.wide few (length-take-le c.args.count ((c.args.k1, c.size.result) ∷ (c.args.k2, c.size-2.result) ∷ (c.args.k3, c.size-3.result) ∷ []) few) c.in-Ok-admit.ensures

pub returns-in-Ok-admit : goal.returns-in-Ok-admit
returns-in-Ok-admit c =
    let e = c.in-Ok.ensures.is in
    let few = (dimensions_good c.args.rows c.args.columns c.args.count (sym c.in-Ok.ensures.answer)).few in
    let hs : List (ℕ × ℕ) = take c.args.count ((c.args.k1, c.size.result) ∷ (c.args.k2, c.size-2.result) ∷ (c.args.k3, c.size-3.result) ∷ []) in
    c.length_with.ensures
    ∙ length_passed c.args.rows c.args.columns _ _ _ _ hs
    (sized_taken _ _ _ _ _ _ (rw (e.0, e.1) at c.size.ensures) (rw (e.0, e.1) at c.size-2.ensures) (rw (e.0, e.1) at c.size-3.ensures))
    (length-take-le c.args.count ((c.args.k1, c.size.result) ∷ (c.args.k2, c.size-2.result) ∷ (c.args.k3, c.size-3.result) ∷ []) few)
    (sym ((rw (e.0, e.1) at c.in-Ok-admit.ensures) ∙ checked_heads _ _ _ hs c.in-Ok.ensures.answer))

pub returns-in-Err : goal.returns-in-Err
returns-in-Err c =
    let e = c.in-Ok.ensures.is in
    let hs : List (ℕ × ℕ) = take c.args.count ((c.args.k1, c.size.result) ∷ (c.args.k2, c.size-2.result) ∷ (c.args.k3, c.size-3.result) ∷ []) in
    let is : hs ≡ given c.args.count (sized c.args.rows c.args.columns c.args.k1) (sized c.args.rows c.args.columns c.args.k2) (sized c.args.rows c.args.columns c.args.k3) = sized_taken c.args.rows c.args.columns c.args.count c.args.k1 c.args.k2 c.args.k3 (rw (e.0, e.1) at c.size.ensures) (rw (e.0, e.1) at c.size-2.ensures) (rw (e.0, e.1) at c.size-3.ensures) in
    length_refused c.args.rows c.args.columns _ c.args.k1 c.args.k2 c.args.k3
    (rw is at ((rw (e.0, e.1) at c.in-Err.ensures) ∙ checked_heads _ _ _ hs c.in-Ok.ensures.answer))
    (no_refusal c.in-Err.field-0)
