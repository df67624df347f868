use Rattle.std.proofs.Common.{◌^◌, ◌∙◌, mod-eq_of_lt, arith, lt-ltb}
use Rattle.root.proofs.Fields.{low_zeros, split_low}
use Rattle.root.proofs.significand.Goals as goal

pub overflow_sub-result : goal.overflow_sub-result
overflow_sub-result c = let t = low_zeros c.args.b c.requires c.if-b-lt4503599627370496.true in
    omega (arith, t.1, t.4)

pub returns-then-b-lt4503599627370496 : goal.returns-then-b-lt4503599627370496
returns-then-b-lt4503599627370496 c =
    mod-eq_of_lt (omega (arith, (split_low c.args.b c.requires c.if-b-lt4503599627370496.true).most)) ∙ rw (lt-ltb c.args.b (2 ^ 52) c.if-b-lt4503599627370496.true)
