use Rattle.std.proofs.Common.{rules, true, length-set, ◌≡◌, arith}
use Rattle.store_definition.specs.Owners.{sound_both}
use Rattle.store_definition.proofs.LaidLaws.{laid_facts, both_laid}
use Rattle.store.proofs.quotas.reset.Goals as goal

pub bounds-list-2 : goal.bounds-list-2
bounds-list-2 c =
    let s : sound_both c.args.list.now c.args.tiles.now c.args.bytes.now ≡ true = search rules in
    let f = laid_facts _ _ _ (both_laid _ _ _ s) in
    omega arith

pub bounds-list-36 : goal.bounds-list-36
bounds-list-36 c =
    let s : sound_both c.args.list.now c.args.tiles.now c.args.bytes.now ≡ true = search rules in
    let f = laid_facts _ _ _ (both_laid _ _ _ s) in
    simp length-set (omega arith)
