use Rattle.std.proofs.Common.{◌≡◌, ℕ, ◌-◌, ◌*◌, ◌%◌, ◌^◌, ◌<◌, ◌≤◌, refl, ap, ◌∙◌, arith}
use lib.Ieee.{binary64, of_bits}
use Rattle.hypot.specs.Working.{parts, power, power_le, root_lt, small, far_off, near, rounded_le}
use Rattle.hypot.proofs.length.Goals as goal

cut-le : (d p : ℕ) → d < 27 → p ≡ (1 * 2 ^ (2 * d)) % 2 ^ 64 → p ≤ 2 ^ 52
cut-le d p h e = rw (e, power d h) (power_le d h)

pub returns-then-i-j-ge27 : goal.returns-then-i-j-ge27
returns-then-i-j-ge27 c = (far_off c.args.a c.args.b c.low-i.result c.low-j.result c.requires.0 c.requires.1 c.low-i.ensures c.low-j.ensures c.if-i-j-ge27.true, omega arith)

pub overflow_add-w : goal.overflow_add-w
overflow_add-w c =
    let l = root_lt c.radicand-whole.result.0 c.whole_root-w.result.s c.whole_root-w.result.r c.whole_root-w.ensures.0 c.radicand-whole.ensures.2 in
    omega (arith, small c.whole_root-w.result.s c.whole_root-w.result.r c.radicand-whole.result.1 _ l c.whole_root-w.ensures.1 c.radicand-whole.ensures.1 (cut-le (c.low-i.result - c.low-j.result) _ c.if-i-j-ge27.false refl))

pub rounded-requires : goal.rounded-requires
rounded-requires c =
    let l = root_lt c.radicand-whole.result.0 c.whole_root-w.result.s c.whole_root-w.result.r c.whole_root-w.ensures.0 c.radicand-whole.ensures.2 in
    (omega (arith, (parts c.args.a c.low-i.result c.requires.1 c.low-i.ensures).last), l, small c.whole_root-w.result.s c.whole_root-w.result.r c.radicand-whole.result.1 _ l c.whole_root-w.ensures.1 c.radicand-whole.ensures.1 (cut-le (c.low-i.result - c.low-j.result) _ c.if-i-j-ge27.false refl))

pub returns : goal.returns
returns c =
    let e = near c.args.a c.args.b c.low-i.result c.low-j.result c.requires.0 c.requires.1 c.low-i.ensures c.low-j.ensures
    c.radicand-whole.result.0 c.radicand-whole.result.1 _ c.whole_root-w.result.s c.whole_root-w.result.r c.if-i-j-ge27.false (omega arith) (power (c.low-i.result - c.low-j.result) c.if-i-j-ge27.false)
    c.radicand-whole.ensures.0 c.radicand-whole.ensures.1 c.radicand-whole.ensures.2 c.whole_root-w.ensures.0 c.whole_root-w.ensures.1 in
    (ap (of_bits binary64) c.rounded.ensures ∙ e, rw c.rounded.ensures (rounded_le _ _ _))
