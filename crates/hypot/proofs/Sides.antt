-- **hypot2_symmetric**: the two numbers may change places. **hypot2_zero**: beside a zero it is the other number's magnitude, exactly.
use mathlib.Core.Path.{◌≡◌, refl, sym, ap, ◌∙◌}
use mathlib.Core.Bool.{Bool, false}
use Prim.Native.Nat.{ℕ, zero, ◌+◌, ◌-◌, ◌*◌, ◌^◌, ◌<◌}
use native.Mathlib.Nat.{add_comm, mul_comm, mul_assoc, le_of_eq, lt_of_le_of_lt, mul-lt-mul_of_pos_right}
use native.Mathlib.Omega.{arith}
use lib.Dec.{T}
use lib.Pow.{pow_pos}
use lib.Ieee.{Float, nan, inf, fin, binary64, fits, of_bits, to_bits}
use lib.Ieee.Bits.{of_bits-to_bits}
use Rattle.grid.specs.Real.{zero64}
use Rattle.root.specs.Root.{units}
use Rattle.leaves.specs.Leaf.{magnitude}
use Rattle.root.proofs.Whole.{sq_even}
use Rattle.hypot.specs.Hypot2.{root_of_sum, hypot2}
use Rattle.hypot.specs.RoundingParts.{low, val}
use Rattle.hypot.specs.Stretch.{sq_lt}
use Rattle.hypot.specs.Rounds.{in_reach}
use Rattle.hypot.specs.Working.{parts, under, itself}
use Rattle.hypot.specs.Patterns.{positive_lt, unsigned, units_of, zero_units}

pub hypot2_symmetric : (x y : Float) → hypot2 x y ≡ hypot2 y x
unfolding hypot2
hypot2_symmetric nan nan = refl
hypot2_symmetric nan (inf t) = refl
hypot2_symmetric nan (fin t n d) = refl
hypot2_symmetric (inf s) nan = refl
hypot2_symmetric (inf s) (inf t) = refl
hypot2_symmetric (inf s) (fin t n d) = refl
hypot2_symmetric (fin s m e) nan = refl
hypot2_symmetric (fin s m e) (inf t) = refl
hypot2_symmetric (fin s m e) (fin t n d) = ap root_of_sum (add_comm (units (fin s m e) * units (fin s m e)) (units (fin t n d) * units (fin t n d)))

-- the root of a pattern's own square
square : (a : ℕ) → a < 0x7ff0_0000_0000_0000 → of_bits binary64 a ≡ root_of_sum (val a * val a)
square a h =
    let w = parts a (low a) h refl in
    let u = val a in
    let l = in_reach u 0 (under a (low a) (a - low a * 2 ^ 52) h w) (pow_pos 2098) in
    itself a (low a) (u * u) 0 h w (less u l) (record { least = le_of_eq (even _ _); most = lt_of_le_of_lt (le_of_eq (sym (even _ _))) (sq_lt (wider _ _)); start = λ z. even _ _; inside = λ z. absurd (omega arith) })
  where
    less : (u : ℕ) → 4 * (u * u + 0 * 0) < 4 ^ 2100 → 4 * (u * u) < 4 ^ 2100
    less u l = rw (none u) at l
      where
        none : (u : ℕ) → u * u + 0 * 0 ≡ u * u
        none u = omega arith

    even : (m k : ℕ) → 2 * m * 2 ^ k * (2 * m * 2 ^ k) ≡ 4 * (m * 2 ^ k * (m * 2 ^ k))
    even m k = ap (λ (x : ℕ). x * x) (assoc m (2 ^ k)) ∙ sq_even (m * 2 ^ k)
      where
        assoc : (m p : ℕ) → 2 * m * p ≡ m * p * 2
        assoc m p = mul_assoc 2 m p ∙ mul_comm 2 (m * p)

    wider : (m k : ℕ) → 2 * m * 2 ^ k < (2 * m + 1) * 2 ^ k
    wider m k = mul-lt-mul_of_pos_right (next m) (pow_pos k)
      where
        next : (m : ℕ) → 2 * m < 2 * m + 1
        next m = omega arith

-- a zero of either sign
pub hypot2_beside_zero : (x : Float) (t : Bool) (d : _) → T (fits binary64 x) → hypot2 x (fin t zero d) ≡ magnitude x
unfolding hypot2 magnitude
hypot2_beside_zero nan t d f = refl
hypot2_beside_zero (inf s) t d f = refl
hypot2_beside_zero (fin s m e) t d f =
    ap (λ (v : ℕ). root_of_sum (units (fin s m e) * units (fin s m e) + v * v)) (zero_units d)
    ∙ ap root_of_sum (none (units (fin s m e)))
    ∙ ap (λ (u : ℕ). root_of_sum (u * u)) (units_of s m e f)
    ∙ sym (square (to_bits binary64 (fin false m e)) (positive_lt s m e f))
    ∙ of_bits-to_bits binary64 (fin false m e) (unsigned s m e f)
  where
    none : (u : ℕ) → u * u + 0 * 0 ≡ u * u
    none u = omega arith

pub hypot2_zero : (x : Float) → T (fits binary64 x) → hypot2 x zero64 ≡ magnitude x
unfolding of_bits
hypot2_zero x f = hypot2_beside_zero x false _ f
