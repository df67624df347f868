-- `root x` is the double nearest to √x, for every finite x above zero (`root_nearest`), and no other double is (`nearest_only`).
use Rattle.std.proofs.Common.{◌≡◌, ℕ, ◌+◌, ◌*◌, ◌^◌, ◌<◌, ◌≤◌, T, sym, ap, subst, le_trans, le_of_eq, lt_of_lt_of_le, lt_irrefl, arith}
use native.Mathlib.Decide.{dec_lt}
use lib.Ieee.{Float, binary64, of_bits, to_bits, fits}
use lib.Ieee.Bits.{of_bits-to_bits, of_bits-fits}
use lib.Ieee.Positive.{positive}
use Rattle.root.specs.Root.{units, root}
use Rattle.root.specs.Parts.{root_bits}
use Rattle.root.specs.Nearest.{Nearest}
use Rattle.root.proofs.Fields.{val}
use Rattle.root.proofs.Patterns.{bits_value}
use Rattle.root.proofs.Middle.{beside_above, beside_below}
use Rattle.root.proofs.Worked.{worked, pattern, digits, counted_of, units_inj}
use Rattle.root.proofs.Rounds.{root_is}

-- ---- the theorem

nearest_bits : (b : ℕ) → 0 < b → b < 0x7ff0_0000_0000_0000 → Nearest (of_bits binary64 b) (of_bits binary64 (root_bits b))
nearest_bits b p l =
    let w = worked b p l in
    let less : root_bits b < 0x7ff0_0000_0000_0000 = omega (arith, w.range) in
    record {
      held = of_bits-fits binary64 (root_bits b);
      sign = counted_of (of_bits binary64 (root_bits b)) (val (root_bits b)) (2 ^ 1074) (bits_value (root_bits b) less);
      below = λ y f c g.
          let d = digits y f c in
          let r = of_bits binary64 (root_bits b) in
          let m : (units y + units r) * (units y + units r) < 4 * (units (of_bits binary64 b) * 2 ^ 1074) =
          rw (d.2, w.value, ← w.four) (beside_below w.n w.s w.h w.least w.last w.is d.0 d.1 d.3 (rw (d.2, w.value) at g)) in
          m;
      above = λ y f c g.
          let d = digits y f c in
          let r = of_bits binary64 (root_bits b) in
          let m : 4 * (units (of_bits binary64 b) * 2 ^ 1074) < (units y + units r) * (units y + units r) =
          rw (d.2, w.value, ← w.four) (beside_above w.n w.s w.h w.least w.last w.is d.0 d.1 d.3 (rw (w.value, d.2) at g)) in
          m;
    }

pub root_nearest : (x : Float) → T (fits binary64 x) → T (positive x) → Nearest x (root x)
root_nearest x f p =
    let b = to_bits binary64 x in
    let w = pattern x f p in
    subst (λ (v : Float). Nearest v (root x)) (of_bits-to_bits binary64 x f)
    (subst (λ (r : Float). Nearest (of_bits binary64 b) r) (sym (root_is x f p)) (nearest_bits b w.0 w.1))

-- ---- only one

clash : (a b u : ℕ) → (a + b) * (a + b) < u → u < (b + a) * (b + a) → ⊥
clash a b u h k = lt_irrefl u (lt_of_lt_of_le k (le_trans (le_of_eq (ap (λ (x : ℕ). x * x) (comm b a))) (le_of_suc_le_suc_lt h)))
  where
    comm : (b a : ℕ) → b + a ≡ a + b
    comm b a = omega arith

    le_of_suc_le_suc_lt : {x y : ℕ} → x < y → x ≤ y
    le_of_suc_le_suc_lt h = omega arith

pub nearest_only : (x r s : Float) → Nearest x r → Nearest x s → r ≡ s
nearest_only x r s n k = go (dec_lt (units r) (units s)) (dec_lt (units s) (units r))
  where
    tri : (a b : ℕ) → (a < b → ⊥) → (b < a → ⊥) → a ≡ b
    tri a b h k = omega arith

    go : Dec (units r < units s) → Dec (units s < units r) → r ≡ s
    go (yes l) d = absurd (clash (units r) (units s) (4 * (units x * 2 ^ 1074)) (k.below r n.held n.sign l) (n.above s k.held k.sign l))
    go (no f) (yes l) = absurd (clash (units s) (units r) (4 * (units x * 2 ^ 1074)) (n.below s k.held k.sign l) (k.above r n.held n.sign l))
    go (no f) (no g) = units_inj r s n.held n.sign k.held k.sign (tri (units r) (units s) f g)
