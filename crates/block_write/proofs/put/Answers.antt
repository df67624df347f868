use Rattle.std.proofs.Common.{◌∙◌, sym, ap, arith, map, length}
use Rattle.std.proofs.lemmas.List.{length-map}
use Rattle.answers.specs.declared.Answer.{Answer}
use Rattle.block_read.specs.CheckLaws.{no_refusal}
use Rattle.block_write.specs.PutLaws.{put_room, put_refused, put_done}
use Rattle.block_write.proofs.put.Goals as goal

pub put_numbers-requires : goal.put_numbers-requires
put_numbers-requires g c =
    let f = g.W.Word.word in
    let room = put_room (λ p. (p.0, map f p.1.now)) (λ p. length p.1.now) (λ p. sym (length-map p.1.now f)) c.args.rows c.args.columns c.args.count c.args.parts.now _ _ _ c.told-parts
    c.head.ensures c.head-2.ensures c.head-3.ensures c.args.out.now c.headed.new.out c.in-Ok.ensures.put in
    omega (arith, room, c.numbers_at.ensures, c.in-Ok.ensures.is, c.headed.auto)

pub returns-in-Ok : goal.returns-in-Ok
returns-in-Ok g c =
    let f = g.W.Word.word in
    ap (λ (a : Answer). (a, c.put_numbers.new.out)) c.done.ensures
    ∙ put_done (λ p. (p.0, map f p.1.now)) (λ p. length p.1.now) (λ p. sym (length-map p.1.now f)) c.args.rows c.args.columns c.args.count c.args.parts.now _ _ _ c.told-parts
    c.head.ensures c.head-2.ensures c.head-3.ensures c.args.out.now c.headed.new.out c.put_numbers.new.out c.in-Ok.ensures.put (rw (c.numbers_at.ensures, c.in-Ok.ensures.is) at c.put_numbers.ensures)

pub returns-in-Err : goal.returns-in-Err
returns-in-Err g c =
    let f = g.W.Word.word in
    ap (λ (a : Answer). (a, c.headed.new.out)) c.into.ensures
    ∙ put_refused (λ p. (p.0, map f p.1.now)) (λ p. length p.1.now) (λ p. sym (length-map p.1.now f)) c.args.rows c.args.columns c.args.count c.args.parts.now _ _ _ c.told-parts
    c.head.ensures c.head-2.ensures c.head-3.ensures c.args.out.now _ c.headed.new.out c.in-Err.ensures.put (no_refusal c.in-Err.r)
