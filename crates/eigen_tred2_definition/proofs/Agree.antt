-- Two lists that agree at the places of which P holds. Laws only.
-- A store of one value at one place of both keeps that, and adds the place. Assumes nothing.
use Rattle.std.specs.Prelude.{◌≡◌, ◌≢◌, ℕ, ◌≤◌, ◌<◌, Float, length, set}
use Rattle.std.proofs.Common.{sym, ap, ◌∙◌, subst, arith, length-set, get_or-set_same, get_or-set_other, ext_get_or}
use Rattle.std.proofs.Math.Decide.{ℕ_discrete, dec_lt}
use Rattle.std.specs.Float.{nan}
use Rattle.std.proofs.Math.ListN.{get_or-eq_default}
use Rattle.grid.specs.Real.{Vec, at}

pub record Agree (P : ℕ → Type 0) (l m : Vec) : Type 0 where
  pub long : length l ≡ length m
  pub same : (k : ℕ) → P k → at l k ≡ at m k

-- at the place of a store both have what is stored, or lie beyond the end
set_here : (l m : Vec) (j : ℕ) {x y : Float} → length l ≡ length m → x ≡ y → at (set l j x) j ≡ at (set m j y) j
set_here l m j {x} {y} e q = elim (dec_lt j (length l)) [
  | yes h ↦ get_or-set_same l j x nan h ∙ q ∙ sym (get_or-set_same m j y nan (subst (λ (n : ℕ). j < n) e h))
  | no h ↦
      let a : length l ≤ j = omega arith in
      let b : length (set l j x) ≤ j = omega (arith, length-set l j x) in
      let c : length (set m j y) ≤ j = omega (arith, length-set m j y) in
      get_or-eq_default (set l j x) nan b ∙ sym (get_or-eq_default (set m j y) nan c)
]

module _ {P : ℕ → Type 0} {l m : Vec} where
  pub stored : (Q : ℕ → Type 0) (j : ℕ) {x y : Float} → x ≡ y → ((k : ℕ) → k ≢ j → Q k → P k) → Agree P l m → Agree Q (set l j x) (set m j y)
  stored Q j {x} {y} q h a = record {
    long = length-set l j x ∙ a.long ∙ sym (length-set m j y);
    same = λ k p. elim (ℕ_discrete k j) [
      | yes e ↦ subst (λ (i : ℕ). at (set l j x) i ≡ at (set m j y) i) (sym e) (set_here l m j a.long q)
      | no d ↦ get_or-set_other l j k x nan d ∙ a.same k (h k d p) ∙ sym (get_or-set_other m j k y nan d)
    ];
  }

  -- the place is no new one
  pub kept : (j : ℕ) {x y : Float} → x ≡ y → Agree P l m → Agree P (set l j x) (set m j y)
  kept j q a = stored P j q (λ k d p. p) a

  pub fewer : (Q : ℕ → Type 0) → ((k : ℕ) → Q k → P k) → Agree P l m → Agree Q l m
  fewer Q h a = record { long = a.long; same = λ k p. a.same k (h k p) }

  pub whole : ((k : ℕ) → P k) → Agree P l m → l ≡ m
  whole h a = ext_get_or nan l m a.long (λ k b. a.same k (h k))

pub of_equal : (P : ℕ → Type 0) {l m : Vec} → l ≡ m → Agree P l m
of_equal P e = record { long = ap length e; same = λ k p. ap (λ (l : Vec). at l k) e }

-- two of one length agree beyond the end
pub beyond_end : (l m : Vec) (k : ℕ) → length l ≡ length m → length l ≤ k → at l k ≡ at m k
beyond_end l m k e h = get_or-eq_default l nan h ∙ sym (get_or-eq_default m nan (subst (λ (n : ℕ). n ≤ k) e h))
