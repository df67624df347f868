use Rattle.std.proofs.Common.{rules, ◌<◌, ◌≡◌, ◌^◌, sym, ◌∙◌, arith}
use Rattle.std.specs.List.{sum as total}
use Rattle.store.specs.LoopLaws.{lengths, start_is}
use Rattle.store.proofs.loops.start_of.Goals as goal

pub sum-requires-clause-fits : goal.sum-requires-clause-fits
sum-requires-clause-fits c =
    let h : total (lengths c.args.list.now c.args.k) < 2 ^ 64 = omega (arith, start_is c.args.list.now c.args.k) in
    search rules

pub returns : goal.returns
returns c =
    let e : c.sum.result ≡ total (lengths c.args.list.now c.args.k) = search rules in
    e ∙ sym (start_is c.args.list.now c.args.k)
