-- A number and a vector in two runs: the second is 2 ^ k times the first, and both are doubles. Each operation keeps that.
use Rattle.std.specs.Prelude.{◌≡◌, refl, Bool, true, false, ℕ, zero, suc, ◌+◌, ◌≤◌, ◌<◌, T, ltb, eqb, pos, Float, length, set}
use Rattle.std.proofs.Common.{sym, ap, ap₂, ◌∙◌, subst, add-zero, arith, ltb-true, ltb-false, eqb-true, get_or-set_same, get_or-set_other}
use Rattle.std.proofs.lemmas.Bool.{eqb-false}
use Rattle.std.specs.Float.{nan, inf, fin, binary64}
use Rattle.std.specs.Float.Ieee.{fits, lt, le}
use Rattle.std.specs.Float.Ieee.Fits.{nan-fits, add-fits, sub-fits, mul-fits, div-fits}
use Rattle.std.proofs.Math.ListN.{get_or-eq_default}
use Rattle.std.proofs.Math.Seq.{set_out}
use Rattle.grid.specs.Real.{Vec, at, zero64, ◌⊕◌, ◌⊖◌, ◌⊗◌, ◌⊘◌}
use Rattle.grid.specs.Table.{table}
use Rattle.grid.specs.TableLaws.{at_table, length_table}
use Rattle.leaves.specs.Leaf.{magnitude}
use Rattle.svd_gain_theorems.specs.Scale.{fine, Scaled, Product, Quotient}
use Rattle.svd_gain_theorems.specs.ScaleLaws.{scale_none}
use Rattle.svd_gain_theorems.specs.Compare.{magnitude_scaled, lt_scaled, le_scaled}
use Rattle.svd_gain_theorems.proofs.Ops.{mul_scaled, mul_same, add_scaled, sub_scaled, div_same, div_scaled}
use Rattle.svd_gain_theorems.proofs.Turn.{zero_is, zero_fits}
use Rattle.svd_gain_theorems.specs.Alike.{Alike}
use Rattle.svd_gain_theorems.specs.AlikeLaws.{alike_set}
use Rattle.gain_path_theorems.specs.HypotScaled.{mul_left}

pub record Number (k : ℕ) (x y : Float) : Type 0 where
  pub is : Scaled k x y
  pub first : T (fits binary64 x)
  pub second : T (fits binary64 y)

-- each element is a double
abbrev pub Doubles : Vec → Type 0
Doubles v = (i : ℕ) → T (fits binary64 (at v i))

pub record Pair (k : ℕ) (d d' : Vec) : Type 0 where
  pub alike : Alike (λ i. k) d d'
  pub first : Doubles d
  pub second : Doubles d'

-- ---- numbers

module _ (k : ℕ) (x y : Float) {x' y' : Float} where
  pub add_n : Number k x x' → Number k y y' → T (fine (x ⊕ y)) → T (fine (x' ⊕ y')) → Number k (x ⊕ y) (x' ⊕ y')
  add_n p q f f' = record { is = add_scaled k x y p.is q.is p.first q.first f f'; first = add-fits binary64 x y; second = add-fits binary64 x' y' }

  pub sub_n : Number k x x' → Number k y y' → T (fine (x ⊖ y)) → T (fine (x' ⊖ y')) → Number k (x ⊖ y) (x' ⊖ y')
  sub_n p q f f' = record { is = sub_scaled k x y p.is q.is p.first q.first f f'; first = sub-fits binary64 x y; second = sub-fits binary64 x' y' }

  -- the first factor is the same in both
  pub mul_n : x' ≡ x → Number k y y' → Product x y → Product x' y' → Number k (x ⊗ y) (x' ⊗ y')
  mul_n p q P P' = record {
    is = ap (λ (z : Float). z ⊗ y') p ∙ mul_same k x y q.is P (subst (λ (z : Float). Product z y') p P');
    first = mul-fits binary64 x y;
    second = mul-fits binary64 x' y';
  }

  -- or the second
  pub mul_l : Number k x x' → y' ≡ y → Product x y → Product x' y' → Number k (x ⊗ y) (x' ⊗ y')
  mul_l p q P P' = record {
    is = ap (λ (z : Float). x' ⊗ z) q ∙ mul_left k x y p.is P (subst (λ (z : Float). Product x' z) q P');
    first = mul-fits binary64 x y;
    second = mul-fits binary64 x' y';
  }

  pub mul_two : Number k x x' → Number k y y' → Product x y → Product x' y' → Number (k + k) (x ⊗ y) (x' ⊗ y')
  mul_two p q P P' = record { is = mul_scaled k k x y p.is q.is P P'; first = mul-fits binary64 x y; second = mul-fits binary64 x' y' }

  pub div_eq : Number k x x' → Number k y y' → x' ⊘ y' ≡ x ⊘ y
  div_eq p q = div_same k x y p.is q.is

  pub div_l : Number k x x' → y' ≡ y → Quotient x y → Quotient x' y' → Number k (x ⊘ y) (x' ⊘ y')
  div_l p q Q Q' = record {
    is =
        ap (λ (z : Float). x' ⊘ z) q
        ∙ div_scaled k 0 x y (subst (λ (n : ℕ). Scaled n x x') (sym (add-zero k)) p.is) (sym (scale_none y)) Q (subst (λ (z : Float). Quotient x' z) q Q');
    first = div-fits binary64 x y;
    second = div-fits binary64 x' y';
  }

  pub div_two : Number (k + k) x x' → Number k y y' → Quotient x y → Quotient x' y' → Number k (x ⊘ y) (x' ⊘ y')
  div_two p q Q Q' = record { is = div_scaled k k x y p.is q.is Q Q'; first = div-fits binary64 x y; second = div-fits binary64 x' y' }

  pub lt_n : Number k x x' → Number k y y' → lt x' y' ≡ lt x y
  lt_n p q = ap₂ lt p.is q.is ∙ lt_scaled k x y

  pub le_n : Number k x x' → Number k y y' → le x' y' ≡ le x y
  le_n p q = ap₂ le p.is q.is ∙ le_scaled k x y

magnitude_fits : (x : Float) → T (fits binary64 x) → T (fits binary64 (magnitude x))
unfolding magnitude fits
magnitude_fits nan F = F
magnitude_fits (inf s) F = F
magnitude_fits (fin s zero e) F = F
magnitude_fits (fin s (suc m) e) F = F

pub magnitude_n : (k : ℕ) (x : Float) {x' : Float} → Number k x x' → Number k (magnitude x) (magnitude x')
magnitude_n k x {x'} p = record { is = ap magnitude p.is ∙ magnitude_scaled (pos k) x; first = magnitude_fits x p.first; second = magnitude_fits x' p.second }

-- ---- vectors

doubles_set : (d : Vec) (i : ℕ) (x : Float) → Doubles d → T (fits binary64 x) → Doubles (set d i x)
doubles_set d i x D F j = go (eqb j i) refl (ltb i (length d)) refl
  where
    go : (b : Bool) → eqb j i ≡ b → (c : Bool) → ltb i (length d) ≡ c → T (fits binary64 (at (set d i x) j))
    go true p true q =
        let s : j ≡ i = eqb-true j i p in
        let l : i < length d = ltb-true i (length d) q in
        rw (s, get_or-set_same d i x nan l) F
    go true p false q =
        let l : length d ≤ i = ltb-false i (length d) q in
        rw (set_out d i x l) (D j)
    go false p c q = rw (get_or-set_other d i j x nan (eqb-false j i p)) (D j)

pub pair_set : (k : ℕ) (d d' : Vec) (i : ℕ) (x : Float) {x' : Float} → Pair k d d' → Number k x x' → Pair k (set d i x) (set d' i x')
pair_set k d d' i x {x'} h n =
    record { alike = alike_set (λ i. k) d d' i x h.alike n.is; first = doubles_set d i x h.first n.first; second = doubles_set d' i x' h.second n.second }

pub pair_at : (k : ℕ) (d d' : Vec) (i : ℕ) → Pair k d d' → Number k (at d i) (at d' i)
pair_at k d d' i h = record { is = h.alike.each i; first = h.first i; second = h.second i }

pub zero_n : (k : ℕ) → Number k zero64 zero64
zero_n k = record { is = zero_is k; first = zero_fits; second = zero_fits }

pub table_fits : (f : ℕ → Float) (n : ℕ) → ((i : ℕ) → T (fits binary64 (f i))) → Doubles (table f n)
table_fits f n h i = go (ltb i n) refl
  where
    go : (b : Bool) → ltb i n ≡ b → T (fits binary64 (at (table f n) i))
    go true e = rw (at_table f n i (ltb-true i n e)) (h i)
    go false e =
        let l : length (table f n) ≤ i = omega (arith, length_table f n, ltb-false i n e) in
        rw (get_or-eq_default (table f n) nan l) (nan-fits binary64)
