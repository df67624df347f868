use Rattle.std.proofs.Common.{◌∙◌, ap, arith, ℕ, take}
use Rattle.block_read.specs.CheckLaws.{no_refusal, sent_on}
use Rattle.block_write.specs.PutLaws.{checked_refused, checked_heads, passed, heads_fit, bytes_sum, headed_refused, headed_misfit, headed_done}
use Rattle.block_write.proofs.headed.Goals as goal

pub returns-in_err-header-clause-put : goal.returns-in_err-header-clause-put
returns-in_err-header-clause-put c =
    ap (λ (a : ℕ). (a, c.args.out.now)) (sent_on c.from_residual.result _ c.from_residual.ensures.1)
    ∙ headed_refused _ _ _ (take c.args.count c.args.heads.now) c.args.out.now
    (checked_refused c.args.rows c.args.columns c.args.count (take c.args.count c.args.heads.now) c.in_err-header.ensures.answer (no_refusal c.in_err-header.field-0.0))
    (no_refusal c.in_err-header.field-0.0)

pub returns-in_err-admit-clause-put : goal.returns-in_err-admit-clause-put
returns-in_err-admit-clause-put c =
    let e = c.in_ok-header.ensures.is in
    let hs = take c.args.count c.args.heads.now in
    ap (λ (a : ℕ). (a, c.args.out.now)) (sent_on c.from_residual-in_err-admit.result _ c.from_residual-in_err-admit.ensures.1)
    ∙ headed_refused c.args.rows c.args.columns c.args.count hs c.args.out.now
    ((rw (e.0, e.1) at c.in_err-admit.ensures) ∙ checked_heads _ _ _ hs c.in_ok-header.ensures.answer)
    (no_refusal c.in_err-admit.field-0.0)

pub length_with-requires : goal.length_with-requires
length_with-requires c =
    let e = c.in_ok-header.ensures.is in
    let p = passed c.args.rows c.args.columns c.args.count c.args.heads.now c.requires c.in_ok-header.ensures.answer e.0 e.1 c.in_ok-admit.ensures in
    heads_fit _ _ _ _ c.in_ok-header.header.high c.in_ok-header.header.wide p.few p.taken c.in_ok-admit.ensures

pub returns-then-out-length_with-clause-put : goal.returns-then-out-length_with-clause-put
returns-then-out-length_with-clause-put c =
    let e = c.in_ok-header.ensures.is in
    let p = passed c.args.rows c.args.columns c.args.count c.args.heads.now c.requires c.in_ok-header.ensures.answer e.0 e.1 c.in_ok-admit.ensures in
    headed_misfit _ _ _ _ c.args.out.now p.checks p.taken (rw c.length_with.ensures at c.if-out-length_with.true)

pub put_entries-requires : goal.put_entries-requires
put_entries-requires c =
    let e = c.in_ok-header.ensures.is in
    let p = passed c.args.rows c.args.columns c.args.count c.args.heads.now c.requires c.in_ok-header.ensures.answer e.0 e.1 c.in_ok-admit.ensures in
    let n = bytes_sum (take c.args.count c.args.heads.now) in
    (omega (arith, c.numbers_at.ensures, e, p.taken), omega (arith, c.numbers_at.ensures, e, p.taken, n, c.length_with.ensures, c.if-out-length_with.false, c.put_three.auto))

pub returns-clause-put : goal.returns-clause-put
returns-clause-put c =
    let e = c.in_ok-header.ensures.is in
    let p = passed c.args.rows c.args.columns c.args.count c.args.heads.now c.requires c.in_ok-header.ensures.answer e.0 e.1 c.in_ok-admit.ensures in
    headed_done _ _ _ _ c.args.out.now c.put_three.new.out c.put_entries.new.out p.checks p.taken (c.if-out-length_with.false ∙ c.length_with.ensures) c.put_three.ensures
    (rw (c.numbers_at.ensures, e.2) at c.put_entries.ensures)
