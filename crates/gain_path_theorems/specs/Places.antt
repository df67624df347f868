-- Places of two vectors, and cells of two matrices, that carry a power of the gain: of those of which P holds number j of the second is 2 ^ k times number j of the first. Laws only.
use Rattle.std.specs.Prelude.{◌≡◌, refl, Bool, true, false, ℕ, ◌+◌, ◌*◌, ◌≤◌, ◌<◌, ltb, eqb, Float, length, set}
use Rattle.std.proofs.Common.{sym, ◌∙◌, subst, subst₂, arith, ltb-true, ltb-false, eqb-true, length-set, get_or-set_same, get_or-set_other}
use Rattle.std.proofs.lemmas.Bool.{eqb-false}
use Rattle.std.specs.Float.{nan, binary64}
use Rattle.std.specs.Float.Ieee.Fits.{nan-fits}
use Rattle.std.proofs.Math.ListN.{get_or-eq_default}
use Rattle.grid.specs.Real.{Vec, at}
use Rattle.grid.specs.Cell.{at2, put2}
use Rattle.grid.specs.CellLaws.{one_place}
use Rattle.svd_gain_theorems.specs.Scale.{scale}
use Rattle.gain_path_theorems.specs.Numbers.{Number}

pub record Places (k : ℕ) (P : ℕ → Type 0) (d d' : Vec) : Type 0 where
  pub long : length d' ≡ length d
  pub each : (i : ℕ) → P i → Number k (at d i) (at d' i)

pub nan_n : (k : ℕ) → Number k nan nan
unfolding scale
nan_n k = record { is = refl; first = nan-fits binary64; second = nan-fits binary64 }

-- at the place of a store both have what is stored, or lie beyond the end
set_here : (k : ℕ) (d d' : Vec) (i : ℕ) (x : Float) {x' : Float} → length d' ≡ length d → Number k x x' → Number k (at (set d i x) i) (at (set d' i x') i)
set_here k d d' i x {x'} l n = go (ltb i (length d)) refl
  where
    go : (b : Bool) → ltb i (length d) ≡ b → Number k (at (set d i x) i) (at (set d' i x') i)
    go true e =
        let h : i < length d = ltb-true i (length d) e in
        let h' : i < length d' = omega arith in
        rw (get_or-set_same d i x nan h, get_or-set_same d' i x' nan h') n
    go false e =
        let h : length d ≤ i = ltb-false i (length d) e in
        let a : length (set d i x) ≤ i = omega (arith, length-set d i x) in
        let b : length (set d' i x') ≤ i = omega (arith, length-set d' i x') in
        rw (get_or-eq_default (set d i x) nan a, get_or-eq_default (set d' i x') nan b) (nan_n k)

-- a store: what is asked there is what is stored, and what is asked elsewhere was so before
pub place_set : (k : ℕ) (P Q : ℕ → Type 0) (d d' : Vec) (i : ℕ) (x : Float) {x' : Float} → (Q i → Number k x x') → ((j : ℕ) → (j ≡ i → ⊥) → Q j → P j) → Places k P d d' → Places k Q (set d i x) (set d' i x')
place_set k P Q d d' i x {x'} n h a = record {
  long = length-set d' i x' ∙ a.long ∙ sym (length-set d i x);
  each = λ j q. go j q (eqb j i) refl;
}
  where
    go : (j : ℕ) → Q j → (b : Bool) → eqb j i ≡ b → Number k (at (set d i x) j) (at (set d' i x') j)
    go j q true e =
        let s : j ≡ i = eqb-true j i e in
        subst (λ (m : ℕ). Number k (at (set d i x) m) (at (set d' i x') m)) (sym s) (set_here k d d' i x a.long (n (subst Q s q)))
    go j q false e =
        let o : j ≡ i → ⊥ = eqb-false j i e in
        rw (get_or-set_other d i j x nan o, get_or-set_other d' i j x' nan o) (a.each j (h j o q))

pub place_as : (k : ℕ) (P Q : ℕ → Type 0) (d d' : Vec) → ((j : ℕ) → Q j → P j) → Places k P d d' → Places k Q d d'
place_as k P Q d d' h a = record { long = a.long; each = λ j q. a.each j (h j q) }

-- ---- cells, row r and column c of n rows

pub record Cells (n k : ℕ) (P : ℕ → ℕ → Type 0) (v v' : Vec) : Type 0 where
  pub long : length v' ≡ length v
  pub each : (r c : ℕ) → r < n → P r c → Number k (at2 v n r c) (at2 v' n r c)

pub cell_put : (n k : ℕ) (P Q : ℕ → ℕ → Type 0) (v v' : Vec) (i j : ℕ) (x : Float) {x' : Float} → i < n → (Q i j → Number k x x')
    → ((r c : ℕ) → ((r ≡ i) × (c ≡ j) → ⊥) → Q r c → P r c) → Cells n k P v v' → Cells n k Q (put2 v n i j x) (put2 v' n i j x')
cell_put n k P Q v v' i j x {x'} l m h a = record {
  long = length-set v' (j * n + i) x' ∙ a.long ∙ sym (length-set v (j * n + i) x);
  each = λ r c b q. go r c b q (eqb (c * n + r) (j * n + i)) refl;
}
  where
    go : (r c : ℕ) → r < n → Q r c → (b : Bool) → eqb (c * n + r) (j * n + i) ≡ b → Number k (at2 (put2 v n i j x) n r c) (at2 (put2 v' n i j x') n r c)
    go r c b q true e =
        let s : c * n + r ≡ j * n + i = eqb-true (c * n + r) (j * n + i) e in
        let w = one_place n r c i j b l s in
        subst (λ (p : ℕ). Number k (at (put2 v n i j x) p) (at (put2 v' n i j x') p)) (sym s)
        (set_here k v v' (j * n + i) x a.long (m (subst₂ Q w.0 w.1 q)))
    go r c b q false e =
        let o : c * n + r ≡ j * n + i → ⊥ = eqb-false (c * n + r) (j * n + i) e in
        rw (get_or-set_other v (j * n + i) (c * n + r) x nan o, get_or-set_other v' (j * n + i) (c * n + r) x' nan o)
        (a.each r c b (h r c (λ s. o (same r c i j s.0 s.1)) q))
      where
        same : (r c i j : ℕ) → r ≡ i → c ≡ j → c * n + r ≡ j * n + i
        same r c i j p q = rw (p, q)

pub cell_as : (n k : ℕ) (P Q : ℕ → ℕ → Type 0) (v v' : Vec) → ((r c : ℕ) → r < n → Q r c → P r c) → Cells n k P v v' → Cells n k Q v v'
cell_as n k P Q v v' h a = record { long = a.long; each = λ r c b q. a.each r c b (h r c b q) }
