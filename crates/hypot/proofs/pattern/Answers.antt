use Rattle.std.proofs.Common.{◌≡◌, true, false, refl, sym, ap, ◌∙◌, true≢false}
use lib.Ieee.{Float, nan, inf, fin, binary64, is_nan, eq, to_bits}
use Rattle.hypot.specs.Patterns.{nan_of}
use Rattle.hypot.proofs.pattern.Goals as goal

differs : (x : Float) → is_nan x ≡ true → eq x x ≡ false
unfolding is_nan eq
differs nan h = refl
differs (inf s) h = absurd (true≢false (sym h))
differs (fin s m e) h = absurd (true≢false (sym h))

pub returns-then-is_nan : goal.returns-then-is_nan
returns-then-is_nan c = nan_of c.magnitude-m.result (differs _ (sym c.is_nan.ensures.value ∙ c.if-is_nan.true)) ∙ ap (to_bits binary64) c.magnitude-m.ensures
