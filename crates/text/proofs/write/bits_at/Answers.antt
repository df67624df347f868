use Rattle.std.proofs.Common.{rules, ◌≡◌, ◌∙◌, ap, refl}
use Rattle.std.specs.Prelude.{Float, get_or}
use lib.Ieee.{binary64, nan, of_bits}
use Rattle.text.specs.Writing.{bits_at}
use Rattle.octets.specs.Bits.{bits}
use Rattle.text.proofs.write.bits_at.Goals as goal

nan_is : of_bits binary64 0x7ff8_0000_0000_0000 ≡ nan
unfolding of_bits
nan_is = refl

pub returns : goal.returns
unfolding bits_at
returns c =
    let e : c.unwrap_or.result ≡ get_or c.args.res.now c.args.k (of_bits binary64 0x7ff8_0000_0000_0000) = search rules in
    c.bits.ensures ∙ ap bits (e ∙ ap (λ (x : Float). get_or c.args.res.now c.args.k x) nan_is)
