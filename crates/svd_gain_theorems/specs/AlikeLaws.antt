-- Stores keep two vectors alike. Laws only.
use Rattle.std.specs.Prelude.{◌≡◌, refl, Bool, true, false, ℕ, ◌≤◌, ◌<◌, ltb, eqb, pos, Float, length, set}
use Rattle.std.proofs.Common.{sym, ap, ◌∙◌, arith, ltb-true, ltb-false, lt-ltb, le-ltb, eqb-true, length-set, get_or-set_same, get_or-set_other}
use Rattle.std.proofs.lemmas.Bool.{eqb-false}
use Rattle.std.specs.Float.{nan}
use Rattle.std.proofs.Math.ListN.{get_or-eq_default}
use Rattle.std.proofs.Math.Seq.{set_out}
use Rattle.grid.specs.Real.{Vec, at}
use Rattle.svd_gain_theorems.specs.Scale.{scale, Scaled}
use Rattle.svd_gain_theorems.specs.ScaleLaws.{scale_none}
use Rattle.svd_gain_theorems.specs.Alike.{Alike, under}

-- one number stored in both, where the powers may change at its index
pub alike_put : (κ μ : ℕ → ℕ) (w v : Vec) (i : ℕ) (x : Float) {y : Float} → ((j : ℕ) → (j ≡ i → ⊥) → μ j ≡ κ j) → Alike κ w v → Scaled (μ i) x y
    → Alike μ (set w i x) (set v i y)
unfolding scale
alike_put κ μ w v i x {y} m h e =
    record { long = length-set v i y ∙ h.long ∙ sym (length-set w i x); each = λ j. go j (eqb j i) refl (ltb i (length w)) refl }
  where
    go : (j : ℕ) (b : Bool) → eqb j i ≡ b → (c : Bool) → ltb i (length w) ≡ c → Scaled (μ j) (at (set w i x) j) (at (set v i y) j)
    go j true p true q =
        let s : j ≡ i = eqb-true j i p in
        let l : i < length w = ltb-true i (length w) q in
        let n : i < length v = omega (arith, h.long) in
        rw (s, get_or-set_same w i x nan l, get_or-set_same v i y nan n) e
    go j true p false q =
        let s : j ≡ i = eqb-true j i p in
        let l : length w ≤ i = ltb-false i (length w) q in
        let n : length v ≤ i = omega (arith, h.long) in
        rw (s, set_out w i x l, set_out v i y n, get_or-eq_default w nan l, get_or-eq_default v nan n)
    go j false p c q =
        let o : j ≡ i → ⊥ = eqb-false j i p in
        rw (get_or-set_other w i j x nan o, get_or-set_other v i j y nan o, m j o) (h.each j)

pub alike_set : (κ : ℕ → ℕ) (w v : Vec) (i : ℕ) (x : Float) {y : Float} → Alike κ w v → Scaled (κ i) x y → Alike κ (set w i x) (set v i y)
alike_set κ w v i x = alike_put κ κ w v i x (λ j _. refl)

-- where the powers are another way to say the same
pub alike_as : (κ μ : ℕ → ℕ) (w v : Vec) → ((i : ℕ) → Scaled (κ i) (at w i) (at v i) → Scaled (μ i) (at w i) (at v i)) → Alike κ w v → Alike μ w v
alike_as κ μ w v f h = record { long = h.long; each = λ i. f i (h.each i) }

pub under_in : (k n i : ℕ) → i < n → under k n i ≡ k
under_in k n i h = rw (lt-ltb i n h)

pub under_out : (k n i : ℕ) → n ≤ i → under k n i ≡ 0
under_out k n i h = rw (le-ltb i n h)

-- where the power is none
pub equal : (x : Float) {y : Float} (j : ℕ) → j ≡ 0 → Scaled j x y → y ≡ x
equal x j z e = e ∙ ap (λ (n : ℕ). scale (pos n) x) z ∙ scale_none x

pub equally : (x : Float) {y : Float} (j : ℕ) → j ≡ 0 → y ≡ x → Scaled j x y
equally x j z e = e ∙ sym (ap (λ (n : ℕ). scale (pos n) x) z ∙ scale_none x)

pub powered : (x : Float) {y : Float} {j k : ℕ} → j ≡ k → Scaled j x y → Scaled k x y
powered x e h = h ∙ ap (λ (n : ℕ). scale (pos n) x) e
