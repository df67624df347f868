use Rattle.std.proofs.Common.{rules, ◌≡◌, refl, true, false, arith}
use Rattle.tally_definition.specs.Figures.{in_range}
use Rattle.tally_definition.specs.Tallies.{fit}
use Rattle.tally.specs.OutcomeLaws.{count_small, refused, led, kept, range_refused, fit_refused, not_refused, room}
use Rattle.tally.proofs.added.Goals as goal

pub returns-then-not-in_range : goal.returns-then-not-in_range
returns-then-not-in_range c =
    let e : in_range c.args.answer c.args.passes ≡ false = search rules in
    refused c.args.t c.args.answer c.args.passes 38 (range_refused _ _ _ e) (λ z. omega arith)

pub returns-then-not-is_fit : goal.returns-then-not-is_fit
returns-then-not-is_fit c =
    let e : in_range c.args.answer c.args.passes ≡ true = search rules in
    let f : fit c.args.t ≡ false = search rules in
    refused c.args.t c.args.answer c.args.passes 36 (fit_refused _ _ _ e f) (λ z. omega arith)

pub overflow_add-counts : goal.overflow_add-counts
overflow_add-counts c =
    let e : in_range c.args.answer c.args.passes ≡ true = search rules in
    let f : fit c.args.t ≡ true = search rules in
    omega (arith, count_small c.args.t c.args.answer c.args.passes (room c.args.t c.args.answer c.args.passes e f))

pub overflow_add-more : goal.overflow_add-more
overflow_add-more c =
    let e : in_range c.args.answer c.args.passes ≡ true = search rules in
    let f : fit c.args.t ≡ true = search rules in
    omega (arith, room c.args.t c.args.answer c.args.passes e f)

pub overflow_add-more-2 : goal.overflow_add-more-2
overflow_add-more-2 c =
    let e : in_range c.args.answer c.args.passes ≡ true = search rules in
    let f : fit c.args.t ≡ true = search rules in
    omega (arith, room c.args.t c.args.answer c.args.passes e f)

pub returns-then-t-passes : goal.returns-then-t-passes
returns-then-t-passes c =
    let e : in_range c.args.answer c.args.passes ≡ true = search rules in
    let f : fit c.args.t ≡ true = search rules in
    led c.args.t c.args.answer c.args.passes 0 (not_refused _ _ _ e f) refl c.if-t-passes.true

pub returns : goal.returns
returns c =
    let e : in_range c.args.answer c.args.passes ≡ true = search rules in
    let f : fit c.args.t ≡ true = search rules in
    kept c.args.t c.args.answer c.args.passes 0 (not_refused _ _ _ e f) refl c.if-t-passes.false
