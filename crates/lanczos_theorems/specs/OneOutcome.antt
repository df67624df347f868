-- The promise of `lanczos` determines the outcome: two that satisfy it are the same. Laws only.
use Rattle.std.specs.Prelude.{◌≡◌, ℕ}
use Rattle.std.proofs.Common.{sym, ◌∙◌}
use Rattle.grid.specs.Real.{Vec}
use Rattle.lanczos_theorems.specs.Early.{Outcome, Promised}

pub lanczos_one : (n k limit edition : ℕ) (a b work x : Vec) (y z : Outcome) → Promised n k limit edition a b work x y → Promised n k limit edition a b work x z → y ≡ z
lanczos_one n k limit edition a b work x y z p q = p ∙ sym q
