use Rattle.std.proofs.Common.{◌^◌, Bool, not, T, refl, sym, ◌∙◌, subst, lt-ltb, le-ltb}
use Rattle.std.specs.Prelude.{◌%◌}
use lib.Ieee.{binary64, of_bits}
use lib.Ieee.Bits.{nan_bits_above}
use Rattle.octets.specs.Bits.{float}
use Rattle.octets.proofs.float.Goals as goal

pub float_from_bits-result : goal.float_from_bits-result
float_from_bits-result c = subst (λ (t : Bool). T (not t)) (sym (nan_bits_above binary64 c.args.b ∙ le-ltb 0x7ff0_0000_0000_0000 (c.args.b % 2 ^ 63) c.if-b-le9218868437227405312.true)) tt

pub returns-then-b-le9218868437227405312 : goal.returns-then-b-le9218868437227405312
unfolding float
returns-then-b-le9218868437227405312 c = rw (le-ltb 0x7ff0_0000_0000_0000 (c.args.b % 2 ^ 63) c.if-b-le9218868437227405312.true)

pub returns-else-b-le9218868437227405312 : goal.returns-else-b-le9218868437227405312
unfolding float of_bits
returns-else-b-le9218868437227405312 c = rw (lt-ltb 0x7ff0_0000_0000_0000 (c.args.b % 2 ^ 63) c.if-b-le9218868437227405312.false) refl
