use Rattle.std.proofs.Common.{T, sym, ap, ◌∙◌, subst}
use lib.Ieee.{binary64, of_bits, to_bits}
use Rattle.root.proofs.Cases.{no_nan, kept, other}
use Rattle.root.proofs.Fields.{root_bits_le}
use Rattle.root.proofs.Nearest.{root_nearest}
use Rattle.root.proofs.Patterns as patterns
use Rattle.root.proofs.Rounds.{root_is}
use Rattle.root.proofs.Worked.{pattern}
use Rattle.root.proofs.root.Goals as goal

pub float_to_bits-x : goal.float_to_bits-x
float_to_bits-x c = no_nan c.args.x (subst T (sym c.if-positive.true ∙ c.positive.ensures) tt)

pub root_bits-requires : goal.root_bits-requires
root_bits-requires c =
    let p = pattern c.args.x (subst T (sym c.well_formed.0.1) tt) (subst T (sym c.if-positive.true ∙ c.positive.ensures) tt) in
    record { b_nonzero = p.0; b_bound = p.1 }

pub float_from_bits-result : goal.float_from_bits-result
float_from_bits-result c =
    let p = pattern c.args.x (subst T (sym c.well_formed.0.1) tt) (subst T (sym c.if-positive.true ∙ c.positive.ensures) tt) in
    patterns.no_nan c.root_bits.result (rw c.root_bits.ensures (root_bits_le (to_bits binary64 c.args.x) p.0 p.1))

pub returns-then-positive : goal.returns-then-positive
returns-then-positive c =
    let f = subst T (sym c.well_formed.0.1) tt in
    let e = ap (of_bits binary64) c.root_bits.ensures ∙ sym (root_is c.args.x f (subst T (sym c.if-positive.true ∙ c.positive.ensures) tt)) in
    record { value = e; nearest = λ p. rw e (root_nearest c.args.x f p) }

pub returns-then-x-clause-value : goal.returns-then-x-clause-value
returns-then-x-clause-value c = kept c.args.x c.if-x.true

pub returns-else-x-clause-value : goal.returns-else-x-clause-value
returns-else-x-clause-value c = c.not_a_number.ensures ∙ other c.args.x (sym c.positive.ensures ∙ c.if-positive.false) c.if-x.false
