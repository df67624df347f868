-- Where all of a list is finite, no scan finds anything. Laws only.
use Rattle.std.specs.Prelude.{None}
use mathlib.Core.Path.{◌≡◌, refl, sym, ◌∙◌}
use mathlib.Core.Bool.{Bool, true, false, cond, ◌&&◌, true≢false}
use mathlib.Core.Logic.{⊎_elim}
use Prim.Native.Nat.{ℕ, ◌+◌, ◌<◌}
use native.Mathlib.Nat.{eq-or-lt_of_le}
use native.Mathlib.Omega.{arith}
use lib.Dec.{leb}
use lib.Ieee.{Float, of_bits}
use lib.ListN.{length}
use Rattle.grid.specs.LoopLaws.{upto_both}
use Rattle.grid.specs.Real.{Vec, at, zero64}
use Rattle.leaves.specs.Leaf.{is_finite}
use Rattle.leaves.specs.Finite.{Finite}
use Rattle.leaves.specs.FiniteLaws.{finite_rows, all_step, all_finite}
use Rattle.leaves.specs.Scan.{first_bad, first_bad_lower, by_rows, place_of, lower_of}
use Rattle.leaves.specs.ScanLaws.{scan_fine, first_bad_fine, lower_at, lower_is}
use Rattle.leaves.specs.declared.Place.{Place}

all_fine : (d : Vec) → all_finite d ≡ true → Finite d
unfolding all_finite
all_fine d = upto_both (λ k b c. b ≡ true → (j : ℕ) → j < k → is_finite (at d j) ≡ true) (all_step d) (all_step d) 0 (length d) true true (omega arith)
    (λ k b c l m h e j g. step k b (is_finite (at d k)) refl h e j g)
    (λ e j g. absurd (omega arith))
  where
    step : (k : ℕ) (b f : Bool) → is_finite (at d k) ≡ f → (b ≡ true → (j : ℕ) → j < k → is_finite (at d j) ≡ true) → (b && f) ≡ true → (j : ℕ) → j < k + 1 → is_finite (at d j) ≡ true
    step k true true q h e j g = ⊎_elim (λ (s : j ≡ k). rw s q) (λ l. h refl j l) (eq-or-lt_of_le {n = j} {m = k} (omega arith))
    step k true false q h e j g = absurd (true≢false (sym e))
    step k false f q h e j g = absurd (true≢false (sym e))

pub none : (d : Vec) {b : Bool} → b ≡ all_finite d → b ≡ true → None ≡ first_bad d
none d e t = sym (first_bad_fine d (all_fine d (sym e ∙ t)))

lower_fine : (p : Place) (x : Float) → is_finite x ≡ true → is_finite (lower_of p x) ≡ true
unfolding lower_of is_finite of_bits
lower_fine p x h = go (leb p.j p.i)
  where
    go : (b : Bool) → is_finite (cond b x zero64) ≡ true
    go true = h
    go false = refl

pub none_below : (n : ℕ) (a : Vec) {b : Bool} → b ≡ all_finite a → b ≡ true → None ≡ first_bad_lower n a
none_below n a e t = sym (scan_fine (lower_at n a) (length a) (λ k l. lower_fine (place_of n k) (at a k) (all_fine a (sym e ∙ t) k l))) ∙ lower_is n a

pub none_inside : (cols : ℕ) (v : Vec) {b : Bool} → b ≡ all_finite v → b ≡ true → None ≡ first_bad (by_rows cols v)
none_inside cols v e t = sym (first_bad_fine (by_rows cols v) (finite_rows cols v (all_fine v (sym e ∙ t))))
