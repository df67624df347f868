-- The reduction of `tred2` in two runs whose matrices differ by 2 ^ k: which cell of v and which element of d carries the gain before each turn (`Before`), and that each turn keeps it. Laws only.
use Rattle.std.specs.Prelude.{◌≡◌, Bool, true, false, ltb, set}
use Rattle.std.proofs.Math.Path.{refl, ap₂}
use Rattle.std.proofs.Common.{sym, ap, ◌∙◌, subst, le_antisymm, ltb-true, ltb-false}
use Prim.Native.Nat.{ℕ, zero, suc, ◌+◌, ◌-◌, ◌≤◌, ◌<◌}
use native.Mathlib.Omega.{arith}
use Rattle.std.proofs.Math.Dec.{T}
use Rattle.std.specs.Float.Ieee.{Float, binary64, fits, eq}
use Rattle.std.specs.Float.Ieee.Fits.{div-fits, sub-fits}
use Rattle.grid.specs.Loop.{down}
use Rattle.grid.specs.LoopLaws.{upto_keeps, upto_both}
use Rattle.grid.specs.Real.{Vec, at, zero64, ◌⊕◌, ◌⊖◌, ◌⊗◌, ◌⊘◌}
use Rattle.grid.specs.Cell.{at2, put2}
use Rattle.root.specs.Root.{root}
use Rattle.leaves.specs.Leaf.{magnitude}
use Rattle.eigen_tred2_definition.specs.Tred2.{scale_of, skip_row, over_scale, clear, against, generate, similar_column, similarity, over_h, lessen, update_column, updates, reflect, skip, reduce, householder}
use Rattle.eigen_tred2_definition.specs.Tred2Steps.{scale_step, skip_step, over_scale_step, clear_step, similar_step, similarity_step, over_hStep, lessen_step, update_step, updates_step}
use Rattle.svd_gain_theorems.specs.Scale.{fine, Product}
use Rattle.svd_gain_theorems.specs.ScaleLaws.{scale_none}
use Rattle.svd_gain_theorems.specs.Along.{Along}
use Rattle.svd_gain_theorems.specs.AlongLaws.{along_both}
use Rattle.svd_gain_theorems.specs.Compare.{eq_scaled}
use Rattle.svd_gain_theorems.proofs.Turn.{zero_is}
use Rattle.gain_path_theorems.specs.Numbers.{Number, Pair, add_n, sub_n, mul_n, mul_l, div_eq, div_l, magnitude_n, pair_set, pair_at, zero_n}
use Rattle.gain_path_theorems.proofs.PassScaled.{along_keeps}
use Rattle.gain_path_theorems.specs.Places.{Places, place_set, place_as, Cells, cell_put, cell_as}
use Rattle.gain_path_theorems.specs.Tred2Fine.{generate_g, SimilarFine, SimilarityFine, OverHFine, LessenFine, UpdateFine, UpdatesFine, made, similar, divided, two_h, lessened, ReflectFine, TurnFine, Downs}

-- ---- numbers that are the same in both

pub same_n : (x : Float) {x' : Float} → x' ≡ x → T (fits binary64 x) → Number 0 x x'
same_n x {x'} e F = record { is = e ∙ sym (scale_none x); first = F; second = subst (λ (y : Float). T (fits binary64 y)) (sym e) F }

pub as_same : (x : Float) {x' : Float} → Number 0 x x' → x' ≡ x
as_same x n = n.is ∙ scale_none x

-- below j + 1, and not j
pub less : (t j : ℕ) → t < j + 1 → (t ≡ j → ⊥) → t < j
less t j q o = go (ltb t j) refl
  where
    go : (b : Bool) → ltb t j ≡ b → t < j
    go true e = ltb-true t j e
    go false e = absurd (o (le_antisymm (omega arith) (ltb-false t j e)))

-- ---- the matrix within a turn at i: rows and columns below i and the diagonal carry the gain; the Householder vectors and the cleared rows behind i, and so far those at i, do not

pub record Mid (n k i a b : ℕ) (v v' : Vec) : Type 0 where
  pub g : Cells n k (λ r c. (r < i) × (c < i)) v v'
  pub dg : Cells n k (λ r c. r ≡ c) v v'
  pub u : Cells n 0 (λ r c. (i < c) × (c < n) × (r < c)) v v'
  pub l : Cells n 0 (λ r c. (i < r) × (c < r)) v v'
  pub w : Cells n 0 (λ r c. (c ≡ i) × (r < a)) v v'
  pub z : Cells n 0 (λ r c. (r ≡ i) × (c < b)) v v'

module _ (n k i : ℕ) (i_lt : i < n) where
  -- a number with the gain, below i
  mid_gain : (a b : ℕ) (v v' : Vec) (r c : ℕ) (x : Float) {x' : Float} → r < i → c < i → Number k x x' → Mid n k i a b v v' → Mid n k i a b (put2 v n r c x) (put2 v' n r c x')
  mid_gain a b v v' r c x p q m h =
      let l : r < n = omega arith in
      record {
        g = cell_put n k _ _ v v' r c x l (λ _. m) (λ _ _ _ t. t) h.g;
        dg = cell_put n k _ _ v v' r c x l (λ _. m) (λ _ _ _ t. t) h.dg;
        u = cell_put n 0 _ _ v v' r c x l (λ t. absurd (omega (arith, t.0))) (λ _ _ _ t. t) h.u;
        l = cell_put n 0 _ _ v v' r c x l (λ t. absurd (omega (arith, t.0))) (λ _ _ _ t. t) h.l;
        w = cell_put n 0 _ _ v v' r c x l (λ t. absurd (omega (arith, t.0))) (λ _ _ _ t. t) h.w;
        z = cell_put n 0 _ _ v v' r c x l (λ t. absurd (omega (arith, t.0))) (λ _ _ _ t. t) h.z;
      }

  -- row a of column i: one number more of the Householder vector
  mid_column : (a b : ℕ) (v v' : Vec) (x : Float) {x' : Float} → a < i → Number 0 x x' → Mid n k i a b v v' → Mid n k i (a + 1) b (put2 v n a i x) (put2 v' n a i x')
  mid_column a b v v' x p m h =
      let l : a < n = omega arith in
      record {
        g = cell_put n k _ _ v v' a i x l (λ t. absurd (omega (arith, t.1))) (λ _ _ _ t. t) h.g;
        dg = cell_put n k _ _ v v' a i x l (λ t. absurd (omega arith)) (λ _ _ _ t. t) h.dg;
        u = cell_put n 0 _ _ v v' a i x l (λ t. absurd (omega (arith, t.0))) (λ _ _ _ t. t) h.u;
        l = cell_put n 0 _ _ v v' a i x l (λ t. m) (λ _ _ _ t. t) h.l;
        w = cell_put n 0 (λ r c. (c ≡ i) × (r < a)) (λ r c. (c ≡ i) × (r < a + 1)) v v' a i x l (λ _. m) (λ r c o t. (t.0, less r a t.1 (λ e. o (e, t.0)))) h.w;
        z = cell_put n 0 _ _ v v' a i x l (λ t. m) (λ _ _ _ t. t) h.z;
      }

  -- column b of row i: one zero more
  mid_row : (a b : ℕ) (v v' : Vec) → b < i → Mid n k i a b v v' → Mid n k i a (b + 1) (put2 v n i b zero64) (put2 v' n i b zero64)
  mid_row a b v v' p h =
      record {
        g = cell_put n k _ _ v v' i b zero64 i_lt (λ _. zero_n k) (λ _ _ _ t. t) h.g;
        dg = cell_put n k _ _ v v' i b zero64 i_lt (λ _. zero_n k) (λ _ _ _ t. t) h.dg;
        u = cell_put n 0 _ _ v v' i b zero64 i_lt (λ _. zero_n 0) (λ _ _ _ t. t) h.u;
        l = cell_put n 0 _ _ v v' i b zero64 i_lt (λ _. zero_n 0) (λ _ _ _ t. t) h.l;
        w = cell_put n 0 _ _ v v' i b zero64 i_lt (λ _. zero_n 0) (λ _ _ _ t. t) h.w;
        z = cell_put n 0 (λ r c. (r ≡ i) × (c < b)) (λ r c. (r ≡ i) × (c < b + 1)) v v' i b zero64 i_lt (λ _. zero_n 0) (λ r c o t. (t.0, less c b t.1 (λ e. o (t.0, e)))) h.z;
      }

  -- ---- scale

  scale_n : (d d' : Vec) → Places k (λ j. j < i) d d' → Along (scale_step d) (λ j s. T (fine (s ⊕ magnitude (at d j)))) 0 i zero64
      → Along (scale_step d') (λ j s. T (fine (s ⊕ magnitude (at d' j)))) 0 i zero64 → Number k (scale_of i d) (scale_of i d')
  unfolding scale_of
  scale_n d d' D F F' =
      along_keeps (Number k) (scale_step d) (scale_step d') (λ j s. T (fine (s ⊕ magnitude (at d j)))) (λ j s. T (fine (s ⊕ magnitude (at d' j)))) 0 i zero64 zero64 F F'
      (λ j s s' _ m f f' r. add_n k s (magnitude (at d j)) r (magnitude_n k (at d j) (D.each j m)) f f') (zero_n k)

  -- ---- the Householder vector

  -- d over scale: the first j have no power any more
  record Over (j : ℕ) (x x' : Float × Vec) : Type 0 where
    h : x'.0 ≡ x.0
    low : Places 0 (λ t. t < j) x.1 x'.1
    mid : Places k (λ t. (j ≤ t) × (t < i)) x.1 x'.1
    high : Places 0 (λ t. i < t) x.1 x'.1

  over_scaled : (s s' : Float) (d d' : Vec) → Number k s s' → Places k (λ j. j < i) d d' → Places 0 (λ j. i < j) d d' → Over i (over_scale i s d) (over_scale i s' d')
  unfolding over_scale
  over_scaled s s' d d' S D H =
      upto_both Over (over_scale_step s) (over_scale_step s') 0 i (zero64, d) (zero64, d') (omega arith) step
      (record { h = refl; low = place_as 0 _ _ d d' (λ j (q : j < 0). absurd (omega arith)) H; mid = place_as k _ _ d d' (λ j q. q.1) D; high = H })
    where
      step : (j : ℕ) (x x' : Float × Vec) → 0 ≤ j → j < i → Over j x x' → Over (j + 1) (over_scale_step s j x) (over_scale_step s' j x')
      step j (h, d) (h', d') _ m r =
          let e : at d' j ⊘ s' ≡ at d j ⊘ s = div_eq k (at d j) s (r.mid.each j (omega arith, m)) S in
          let x : Number 0 (at d j ⊘ s) (at d' j ⊘ s') = same_n (at d j ⊘ s) e (div-fits binary64 (at d j) s) in
          record {
            h = ap₂ (λ (a b : Float). a ⊕ b ⊗ b) r.h e;
            low = place_set 0 _ _ d d' j (at d j ⊘ s) (λ _. x) (λ t o (q : t < j + 1). less t j q o) r.low;
            mid = place_set k _ _ d d' j (at d j ⊘ s) (λ q. absurd (omega (arith, q.0))) (λ t o q. (omega (arith, q.0), q.1)) r.mid;
            high = place_set 0 _ _ d d' j (at d j ⊘ s) (λ q. absurd (omega arith)) (λ t o q. q) r.high;
          }

  record Made (x x' : Float × Vec × Vec) : Type 0 where
    h : Number 0 x.0 x'.0
    low : Places 0 (λ t. t < i) x.1 x'.1
    high : Places 0 (λ t. i < t) x.1 x'.1
    e : Pair k x.2 x'.2

  module _ (i-pos : 0 < i) where
    last : i - 1 < i
    last = omega arith

    made_scaled : (s s' : Float) (d d' e e' : Vec) → Number k s s' → Places k (λ j. j < i) d d' → Places 0 (λ j. i < j) d d' → Pair k e e'
        → Product s (generate_g i s d) → Product s' (generate_g i s' d') → Made (generate i s d e) (generate i s' d' e')
    unfolding generate clear
    made_scaled s s' d d' e e' S D H E P P' =
        let o = over_scaled s s' d d' S D H in
        let x = over_scale i s d in
        let x' = over_scale i s' d' in
        let f : at x'.1 (i - 1) ≡ at x.1 (i - 1) = as_same (at x.1 (i - 1)) (o.low.each (i - 1) last) in
        let g : generate_g i s' d' ≡ generate_g i s d = ap₂ (λ (a b : Float). against a (root b)) f o.h in
        let F = at x.1 (i - 1) in
        let G = generate_g i s d in
        let fg : Number 0 (F ⊖ G) (at x'.1 (i - 1) ⊖ generate_g i s' d') = same_n (F ⊖ G) (ap₂ ◌⊖◌ f g) (sub-fits binary64 F G) in
        record {
          h = same_n (x.0 ⊖ F ⊗ G) (ap₂ ◌⊖◌ o.h (ap₂ ◌⊗◌ f g)) (sub-fits binary64 x.0 (F ⊗ G));
          low = place_set 0 _ _ x.1 x'.1 (i - 1) (F ⊖ G) (λ _. fg) (λ t _ q. q) o.low;
          high = place_set 0 _ _ x.1 x'.1 (i - 1) (F ⊖ G) (λ _. fg) (λ t _ q. q) o.high;
          e = upto_keeps (Pair k) clear_step clear_step 0 i (set e i (s ⊗ G)) (set e' i (s' ⊗ generate_g i s' d')) (λ j a b _ _ r. pair_set k a b j zero64 r (zero_n k))
              (pair_set k e e' i (s ⊗ G) E (mul_l k s G S g P P'));
        }

    -- ---- the similarity transformation

    record Sums (x x' : Float × Vec) : Type 0 where
      f : Number k x.0 x'.0
      e : Pair k x.1 x'.1

    record Sides (j : ℕ) (x x' : Vec × Vec) : Type 0 where
      v : Mid n k i j 0 x.0 x'.0
      e : Pair k x.1 x'.1

    module _ (d d' : Vec) (D : Places 0 (λ t. t < i) d d') where
      d_same : (j : ℕ) → j < i → at d' j ≡ at d j
      d_same j m = as_same (at d j) (D.each j m)

      similar_column_lem : (j : ℕ) (v v' : Vec) (x x' : Float × Vec) → j < i → Cells n k (λ r c. (r < i) × (c < i)) v v' → Sums x x'
          → Along (similar_step n j (at d j) v d) (SimilarFine n j (at d j) v d) (j + 1) i x → Along (similar_step n j (at d' j) v' d') (SimilarFine n j (at d' j) v' d') (j + 1) i x'
          → Sums (similar_column n i j (at d j) v d x) (similar_column n i j (at d' j) v' d' x')
      unfolding similar_column
      similar_column_lem j v v' x x' m vs S F F' =
          along_keeps Sums (similar_step n j (at d j) v d) (similar_step n j (at d' j) v' d') (SimilarFine n j (at d j) v d) (SimilarFine n j (at d' j) v' d') (j + 1) i x x' F F' step S
        where
          step : (t : ℕ) (x x' : Float × Vec) → j + 1 ≤ t → t < i → SimilarFine n j (at d j) v d t x → SimilarFine n j (at d' j) v' d' t x' → Sums x x'
              → Sums (similar_step n j (at d j) v d t x) (similar_step n j (at d' j) v' d' t x')
          step t (g, e) (g', e') _ q f f' r =
              let y = vs.each t j (omega arith) (q, m) in
              let c = at2 v n t j in
              record {
                f = add_n k g (c ⊗ at d t) r.f (mul_l k c (at d t) y (d_same t q) f.xd f'.xd) f.g f'.g;
                e = pair_set k e e' t (at e t ⊕ c ⊗ at d j) r.e (add_n k (at e t) (c ⊗ at d j) (pair_at k e e' t r.e) (mul_l k c (at d j) y (d_same j m) f.xf f'.xf) f.e f'.e);
              }

      similarity_scaled : (x x' : Vec × Vec) → Sides 0 x x' → Along (similarity_step n i d) (SimilarityFine n i d) 0 i x → Along (similarity_step n i d') (SimilarityFine n i d') 0 i x'
          → Sides i (similarity n i d x) (similarity n i d' x')
      unfolding similarity
      similarity_scaled x x' S F F' =
          along_both Sides (similarity_step n i d) (similarity_step n i d') (SimilarityFine n i d) (SimilarityFine n i d') 0 i x x' (omega arith) F F' step S
        where
          step : (j : ℕ) (x x' : Vec × Vec) → 0 ≤ j → j < i → SimilarityFine n i d j x → SimilarityFine n i d' j x' → Sides j x x' → Sides (j + 1) (similarity_step n i d j x) (similarity_step n i d' j x')
          step j (v, e) (v', e') _ m f f' r =
              let vs = mid_column j 0 v v' (at d j) m (D.each j m) r.v in
              let w = put2 v n j i (at d j) in
              let w' = put2 v' n j i (at d' j) in
              let c = at2 w n j j in
              let g = add_n k (at e j) (c ⊗ at d j) (pair_at k e e' j r.e) (mul_l k c (at d j) (vs.g.each j j (omega arith) (m, m)) (d_same j m) f.first f'.first) f.sum f'.sum in
              let y = similar_column_lem j w w' (at e j ⊕ c ⊗ at d j, e) (at e' j ⊕ at2 w' n j j ⊗ at d' j, e') m vs.g (record { f = g; e = r.e }) f.rows f'.rows in
              let z = similar_column n i j (at d j) w d (at e j ⊕ c ⊗ at d j, e) in
              let z' = similar_column n i j (at d' j) w' d' (at e' j ⊕ at2 w' n j j ⊗ at d' j, e') in
              record { v = vs; e = pair_set k z.1 z'.1 j z.0 y.e y.f }

      -- ---- e over h, and less hh times d

      over_h_lem : (h h' : Float) (e e' : Vec) → h' ≡ h → Pair k e e' → Along (over_hStep h d) (OverHFine h d) 0 i (zero64, e) → Along (over_hStep h' d') (OverHFine h' d') 0 i (zero64, e')
          → Sums (over_h i h d e) (over_h i h' d' e')
      unfolding over_h
      over_h_lem h h' e e' H E F F' =
          along_keeps Sums (over_hStep h d) (over_hStep h' d') (OverHFine h d) (OverHFine h' d') 0 i (zero64, e) (zero64, e') F F' step (record { f = zero_n k; e = E })
        where
          step : (j : ℕ) (x x' : Float × Vec) → 0 ≤ j → j < i → OverHFine h d j x → OverHFine h' d' j x' → Sums x x' → Sums (over_hStep h d j x) (over_hStep h' d' j x')
          step j (f, e) (f', e') _ m a a' r =
              let q = div_l k (at e j) h (pair_at k e e' j r.e) H a.over a'.over in
              record {
                f = add_n k f (at e j ⊘ h ⊗ at d j) r.f (mul_l k (at e j ⊘ h) (at d j) q (d_same j m) a.xd a'.xd) a.f a'.f;
                e = pair_set k e e' j (at e j ⊘ h) r.e q;
              }

      lessen_scaled : (hh hh' : Float) (e e' : Vec) → Number k hh hh' → Pair k e e' → Along (lessen_step hh d) (LessenFine hh d) 0 i e → Along (lessen_step hh' d') (LessenFine hh' d') 0 i e'
          → Pair k (lessen i hh d e) (lessen i hh' d' e')
      unfolding lessen
      lessen_scaled hh hh' e e' H E F F' =
          along_keeps (Pair k) (lessen_step hh d) (lessen_step hh' d') (LessenFine hh d) (LessenFine hh' d') 0 i e e' F F'
          (λ j x y _ m f f' r. pair_set k x y j (at x j ⊖ hh ⊗ at d j) r (sub_n k (at x j) (hh ⊗ at d j) (pair_at k x y j r) (mul_l k hh (at d j) H (d_same j m) f.product f'.product) f.less f'.less)) E

    -- ---- the rank-two update

    record Renewed (j : ℕ) (x x' : Vec × Vec) : Type 0 where
      v : Mid n k i i j x.0 x'.0
      new : Places k (λ t. t < j) x.1 x'.1
      old : Places 0 (λ t. (j ≤ t) × (t < i)) x.1 x'.1
      high : Places 0 (λ t. i < t) x.1 x'.1

    module _ (e e' : Vec) (E : Pair k e e') where
      update_column_lem : (j : ℕ) (v v' d d' : Vec) → j < i → Places 0 (λ t. (j ≤ t) × (t < i)) d d' → Mid n k i i j v v'
          → Along (update_step n j (at d j) (at e j) d e) (UpdateFine n j (at d j) (at e j) d e) j i v → Along (update_step n j (at d' j) (at e' j) d' e') (UpdateFine n j (at d' j) (at e' j) d' e') j i v'
          → Mid n k i i j (update_column n i j (at d j) (at e j) d e v) (update_column n i j (at d' j) (at e' j) d' e' v')
      unfolding update_column
      update_column_lem j v v' d d' m D vs F F' =
          along_keeps (Mid n k i i j) (update_step n j (at d j) (at e j) d e) (update_step n j (at d' j) (at e' j) d' e') (UpdateFine n j (at d j) (at e j) d e) (UpdateFine n j (at d' j) (at e' j) d' e') j i v v' F F' step vs
        where
          same : (t : ℕ) → j ≤ t → t < i → at d' t ≡ at d t
          same t p q = as_same (at d t) (D.each t (p, q))

          step : (t : ℕ) (x y : Vec) → j ≤ t → t < i → UpdateFine n j (at d j) (at e j) d e t x → UpdateFine n j (at d' j) (at e' j) d' e' t y → Mid n k i i j x y
              → Mid n k i i j (update_step n j (at d j) (at e j) d e t x) (update_step n j (at d' j) (at e' j) d' e' t y)
          step t x y p q f f' r =
              let a = mul_n k (at d j) (at e t) (same j (omega arith) m) (pair_at k e e' t E) f.fe f'.fe in
              let b = mul_l k (at e j) (at d t) (pair_at k e e' j E) (same t p q) f.gd f'.gd in
              let sum = add_n k (at d j ⊗ at e t) (at e j ⊗ at d t) a b f.sum f'.sum in
              mid_gain i j x y t j (at2 x n t j ⊖ (at d j ⊗ at e t ⊕ at e j ⊗ at d t)) q m
              (sub_n k (at2 x n t j) (at d j ⊗ at e t ⊕ at e j ⊗ at d t) (r.g.each t j (omega arith) (q, m)) sum f.less f'.less) r

      updates_scaled : (x x' : Vec × Vec) → Renewed 0 x x' → Along (updates_step n i e) (UpdatesFine n i e) 0 i x → Along (updates_step n i e') (UpdatesFine n i e') 0 i x'
          → Renewed i (updates n i e x) (updates n i e' x')
      unfolding updates
      updates_scaled x x' R F F' =
          along_both Renewed (updates_step n i e) (updates_step n i e') (UpdatesFine n i e) (UpdatesFine n i e') 0 i x x' (omega arith) F F' step R
        where
          step : (j : ℕ) (x x' : Vec × Vec) → 0 ≤ j → j < i → UpdatesFine n i e j x → UpdatesFine n i e' j x' → Renewed j x x' → Renewed (j + 1) (updates_step n i e j x) (updates_step n i e' j x')
          step j (v, d) (v', d') _ m f f' r =
              let vs = update_column_lem j v v' d d' m r.old r.v f f' in
              let w = update_column n i j (at d j) (at e j) d e v in
              let w' = update_column n i j (at d' j) (at e' j) d' e' v' in
              let c = vs.g.each (i - 1) j (omega arith) (last, m) in
              record {
                v = mid_row i j w w' m vs;
                new = place_set k _ _ d d' j (at2 w n (i - 1) j) (λ _. c) (λ t o (q : t < j + 1). less t j q o) r.new;
                old = place_set 0 _ _ d d' j (at2 w n (i - 1) j) (λ q. absurd (omega (arith, q.0))) (λ t o q. (omega (arith, q.0), q.1)) r.old;
                high = place_set 0 _ _ d d' j (at2 w n (i - 1) j) (λ q. absurd (omega arith)) (λ t o q. q) r.high;
              }

-- ---- before the turn at i

pub record Before (n k i : ℕ) (x x' : Vec × Vec × Vec) : Type 0 where
  pub g : Cells n k (λ r c. (r ≤ i) × (c ≤ i)) x.0 x'.0
  pub dg : Cells n k (λ r c. r ≡ c) x.0 x'.0
  pub u : Cells n 0 (λ r c. (i < c) × (c < n) × (r < c)) x.0 x'.0
  pub l : Cells n 0 (λ r c. (i < r) × (c < r)) x.0 x'.0
  pub low : Places k (λ j. j < i) x.1 x'.1
  pub high : Places 0 (λ j. i < j) x.1 x'.1
  pub e : Pair k x.2 x'.2

begin_turn : (n k i : ℕ) (x x' : Vec × Vec × Vec) → Before n k i x x' → Mid n k i 0 0 x.0 x'.0
begin_turn n k i x x' b = record {
  g = cell_as n k _ _ x.0 x'.0 (λ r c _ q. (omega (arith, q.0), omega (arith, q.1))) b.g;
  dg = b.dg;
  u = b.u;
  l = b.l;
  w = cell_as n 0 _ _ x.0 x'.0 (λ r c _ q. absurd (omega (arith, q.1))) b.u;
  z = cell_as n 0 _ _ x.0 x'.0 (λ r c _ q. absurd (omega (arith, q.1))) b.u;
}

-- v and d after the turn, with h to be stored in d
end_turn : (n k i : ℕ) → suc i < n → (v v' d d' e e' : Vec) (h : Float) {h' : Float} → Number 0 h h' → Mid n k (suc i) (suc i) (suc i) v v' → Places k (λ t. t < suc i) d d' → Places 0 (λ t. suc i < t) d d'
    → Pair k e e' → Before n k i (v, set d (suc i) h, e) (v', set d' (suc i) h', e')
end_turn n k i i_lt v v' d d' e e' h {h'} H M L U E = record {
  g = cell_as n k _ _ v v' (λ r c _ q. (omega (arith, q.0), omega (arith, q.1))) M.g;
  dg = M.dg;
  u = record { long = M.u.long; each = λ r c b q. column r c b q (ltb (suc i) c) refl };
  l = record { long = M.l.long; each = λ r c b q. row r c b q (ltb (suc i) r) refl };
  low = place_set k _ _ d d' (suc i) h (λ q. absurd (omega arith)) (λ t _ q. omega arith) L;
  high = place_set 0 _ _ d d' (suc i) h (λ _. H) (λ t o q. above t q o) U;
  e = E;
}
  where
    above : (t : ℕ) → i < t → (t ≡ suc i → ⊥) → suc i < t
    above t q o = go (ltb (suc i) t) refl
      where
        go : (b : Bool) → ltb (suc i) t ≡ b → suc i < t
        go true e = ltb-true (suc i) t e
        go false e = absurd (o (le_antisymm (ltb-false (suc i) t e) (omega arith)))

    column : (r c : ℕ) → r < n → (i < c) × (c < n) × (r < c) → (b : Bool) → ltb (suc i) c ≡ b → Number 0 (at2 v n r c) (at2 v' n r c)
    column r c b q true e = M.u.each r c b (ltb-true (suc i) c e, q.1, q.2)
    column r c b q false e =
        let s : c ≡ suc i = le_antisymm (ltb-false (suc i) c e) (omega (arith, q.0)) in
        M.w.each r c b (s, omega (arith, q.2))

    row : (r c : ℕ) → r < n → (i < r) × (c < r) → (b : Bool) → ltb (suc i) r ≡ b → Number 0 (at2 v n r c) (at2 v' n r c)
    row r c b q true e = M.l.each r c b (ltb-true (suc i) r e, q.1)
    row r c b q false e =
        let s : r ≡ suc i = le_antisymm (ltb-false (suc i) r e) (omega (arith, q.0)) in
        M.z.each r c b (s, omega (arith, q.1))

-- ---- the turn at i + 1

record After (n k i : ℕ) (y y' : Float × Vec × Vec × Vec) : Type 0 where
  h : Number 0 y.0 y'.0
  v : Mid n k i i i y.1 y'.1
  low : Places k (λ t. t < i) y.2 y'.2
  high : Places 0 (λ t. i < t) y.2 y'.2
  e : Pair k y.3 y'.3

module _ (n k i : ℕ) (i_lt : suc i < n) where
  pos : 0 < suc i
  pos = omega arith

  record Skipped (j : ℕ) (x x' : Vec × Vec) : Type 0 where
    v : Mid n k (suc i) j j x.0 x'.0
    new : Places k (λ t. t < j) x.1 x'.1
    high : Places 0 (λ t. suc i < t) x.1 x'.1

  skip_scaled : (x x' : Vec × Vec × Vec) → Before n k (suc i) x x' → After n k (suc i) (skip n (suc i) x) (skip n (suc i) x')
  unfolding skip skip_row
  skip_scaled (v, d, e) (v', d', e') b =
      let r = upto_both Skipped (skip_step n (suc i)) (skip_step n (suc i)) 0 (suc i) (v, d) (v', d') (omega arith) step
      (record { v = begin_turn n k (suc i) (v, d, e) (v', d', e') b; new = place_as k _ _ d d' (λ t (q : t < 0). absurd (omega arith)) b.low; high = b.high }) in
      record {
        h = zero_n 0;
        v = r.v;
        low = r.new;
        high = r.high;
        e = pair_set k e e' (suc i) (at d (suc i - 1)) b.e (b.low.each (suc i - 1) (omega arith));
      }
    where
      step : (j : ℕ) (x x' : Vec × Vec) → 0 ≤ j → j < suc i → Skipped j x x' → Skipped (j + 1) (skip_step n (suc i) j x) (skip_step n (suc i) j x')
      step j (v, d) (v', d') _ m r =
          let c = r.v.g.each (suc i - 1) j (omega arith) (omega arith, m) in
          record {
            v = mid_column n k (suc i) i_lt j (j + 1) (put2 v n (suc i) j zero64) (put2 v' n (suc i) j zero64) zero64 m (zero_n 0) (mid_row n k (suc i) i_lt j j v v' m r.v);
            new = place_set k _ _ d d' j (at2 v n (suc i - 1) j) (λ _. c) (λ t o (q : t < j + 1). less t j q o) r.new;
            high = place_set 0 _ _ d d' j (at2 v n (suc i - 1) j) (λ q. absurd (omega arith)) (λ t o q. q) r.high;
          }

  reflect_scaled : (s s' : Float) (x x' : Vec × Vec × Vec) → Number k s s' → Before n k (suc i) x x' → ReflectFine n (suc i) s x → ReflectFine n (suc i) s' x'
      → After n k (suc i) (reflect n (suc i) s x) (reflect n (suc i) s' x')
  unfolding reflect
  reflect_scaled s s' (v, d, e) (v', d', e') S b F F' =
      let x : Vec × Vec × Vec = (v, d, e) in
      let x' : Vec × Vec × Vec = (v', d', e') in
      let y = made (suc i) s x in
      let y' = made (suc i) s' x' in
      let m = made_scaled n k (suc i) i_lt pos s s' d d' e e' S b.low b.high b.e F.e F'.e in
      let h : y'.0 ≡ y.0 = as_same y.0 m.h in
      let sides =
      similarity_scaled n k (suc i) i_lt pos y.1 y'.1 m.low (v, y.2) (v', y'.2) (record { v = begin_turn n k (suc i) x x' b; e = m.e }) F.similarity F'.similarity in
      let z = similar n (suc i) s x in
      let z' = similar n (suc i) s' x' in
      let o = over_h_lem n k (suc i) i_lt pos y.1 y'.1 m.low y.0 y'.0 z.1 z'.1 h sides.e F.over_h F'.over_h in
      let q = divided n (suc i) s x in
      let q' = divided n (suc i) s' x' in
      let hh = div_l k q.0 (two_h (suc i) s x) o.f (ap (λ (a : Float). a ⊕ a) h) F.hh F'.hh in
      let en = lessen_scaled n k (suc i) i_lt pos y.1 y'.1 m.low (q.0 ⊘ two_h (suc i) s x) (q'.0 ⊘ two_h (suc i) s' x') q.1 q'.1 hh o.e F.lessen F'.lessen in
      let r =
      updates_scaled n k (suc i) i_lt pos (lessened n (suc i) s x) (lessened n (suc i) s' x') en (z.0, y.1) (z'.0, y'.1)
      (record { v = sides.v; new = record { long = m.low.long; each = λ t (w : t < 0). absurd (omega arith) }; old = place_as 0 _ _ y.1 y'.1 (λ t w. w.1) m.low; high = m.high })
      F.updates F'.updates in
      record { h = m.h; v = r.v; low = r.new; high = r.high; e = en }

  turn_scaled : (x x' : Vec × Vec × Vec) → Before n k (suc i) x x' → TurnFine n (suc i) x → TurnFine n (suc i) x' → Before n k i (householder n (suc i) x) (householder n (suc i) x')
  unfolding householder reduce
  turn_scaled (v, d, e) (v', d', e') b F F' = end (eq (scale_of (suc i) d) zero64) refl
    where
      S : Number k (scale_of (suc i) d) (scale_of (suc i) d')
      S = scale_n n k (suc i) i_lt d d' b.low F.scale F'.scale

      same : eq (scale_of (suc i) d') zero64 ≡ eq (scale_of (suc i) d) zero64
      same = ap₂ eq S.is (zero_is k) ∙ eq_scaled k (scale_of (suc i) d) zero64

      finish : (y y' : Float × Vec × Vec × Vec) → After n k (suc i) y y' → Before n k i (y.1, set y.2 (suc i) y.0, y.3) (y'.1, set y'.2 (suc i) y'.0, y'.3)
      finish y y' a = end_turn n k i i_lt y.1 y'.1 y.2 y'.2 y.3 y'.3 y.0 a.h a.v a.low a.high a.e

      end : (c : Bool) → eq (scale_of (suc i) d) zero64 ≡ c → Before n k i (householder n (suc i) (v, d, e)) (householder n (suc i) (v', d', e'))
      end true p =
          rw (same, p) (finish (skip n (suc i) (v, d, e)) (skip n (suc i) (v', d', e')) (skip_scaled (v, d, e) (v', d', e') b))
      end false p =
          rw (same, p) (finish (reflect n (suc i) (scale_of (suc i) d) (v, d, e)) (reflect n (suc i) (scale_of (suc i) d') (v', d', e'))
          (reflect_scaled (scale_of (suc i) d) (scale_of (suc i) d') (v, d, e) (v', d', e') S b (F.reflect p) (F'.reflect (same ∙ p))))

pub reduction_scaled : (n k i : ℕ) → i < n → (x x' : Vec × Vec × Vec) → Before n k i x x' → Downs TurnFine n i x → Downs TurnFine n i x'
    → Before n k 0 (down (householder n) i x) (down (householder n) i x')
unfolding down Downs
reduction_scaled n k zero l x x' b F F' = b
reduction_scaled n k (suc i) l x x' b F F' =
    reduction_scaled n k i (omega arith) (householder n (suc i) x) (householder n (suc i) x') (turn_scaled n k i l x x' b F.0 F'.0) F.1 F'.1
