-- Pairs of four different columns may change places: neither reads or turns a number of the other. Laws only.
use Rattle.std.specs.Prelude.{◌≡◌, ◌≢◌, ℕ, ◌+◌, ◌≤◌, ◌<◌, Float}
use Rattle.std.proofs.Math.Path.{refl, sym, ap}
use Rattle.std.proofs.Common.{◌∙◌, mul_comm, arith, get_or-set_other}
use Rattle.std.proofs.Math.Bool.{Bool, true, false, cond}
use Rattle.std.specs.Float.{nan}
use Rattle.std.proofs.Math.ListN.{set}
use Rattle.std.proofs.lemmas.List.{set_comm}
use Rattle.grid.specs.Loop.{upto}
use Rattle.grid.specs.LoopLaws.{upto_keeps, upto_same}
use Rattle.grid.specs.Real.{Vec, at, ◌⊕◌, ◌⊖◌, ◌⊗◌}
use Rattle.grid.specs.CellLaws.{cell, one_place}
use Rattle.svd_jacobi_svd_tall.specs.declared.sweep.Sums.{Sums}
use Rattle.svd_jacobi_svd_tall.specs.declared.sweep.Rotation.{Rotation}
use Rattle.svd_jacobi_svd_tall.specs.Sweep.{u_at, v_at, gram, skipped, rotation_of, rotated, pair_done}
use Rattle.svd_jacobi_svd_tall.specs.SweepSteps.{gram_step, rotate_step}
use Rattle.svd_jacobi_svd_tall.specs.Turned.{turned, pair_by}

-- what may be done before or behind each turn of a loop may be done before or behind the loop
pub upto_past : {S : Type 0} (f : S → S) (g : ℕ → S → S) (a b : ℕ) (s : S) → ((i : ℕ) (s : S) → a ≤ i → i < b → f (g i s) ≡ g i (f s))
    → f (upto g a b s) ≡ upto g a b (f s)
upto_past f g a b s h = upto_keeps (λ s t. f s ≡ t) g g a b s (f s) (λ i s t p q e. h i s p q ∙ ap (g i) e) refl

-- ---- what leaves a place alone

-- what stands at k is kept by `turn`, and makes no difference to it
record Leaves (k : ℕ) (turn : Vec → Vec) : Type 0 where
  kept : (w : Vec) → at (turn w) k ≡ at w k
  stored : (x : Float) (w : Vec) → turn (set w k x) ≡ set (turn w) k x

leaves_both : (k : ℕ) (s t : Vec → Vec) → Leaves k s → Leaves k t → Leaves k (λ w. s (t w))
leaves_both k s t f g = record { kept = λ w. f.kept (t w) ∙ g.kept w; stored = λ x w. ap s (g.stored x w) ∙ f.stored x (t w) }

module _ (a b : ℕ) (r : Rotation) where
  -- one row of the columns at a and b leaves every other place alone
  step_leaves : (i k : ℕ) → k ≢ a + i → k ≢ b + i → Leaves k (rotate_step a b r i)
  step_leaves i k p q = record { kept = keep; stored = store }
    where
      keep : (w : Vec) → at (rotate_step a b r i w) k ≡ at w k
      keep w =
          let first = r.c ⊗ at w (a + i) ⊖ r.s ⊗ at w (b + i) in
          let second = r.s ⊗ at w (a + i) ⊕ r.c ⊗ at w (b + i) in
          get_or-set_other (set w (a + i) first) (b + i) k second nan q ∙ get_or-set_other w (a + i) k first nan p

      store : (x : Float) (w : Vec) → rotate_step a b r i (set w k x) ≡ set (rotate_step a b r i w) k x
      store x w =
          let first = r.c ⊗ at w (a + i) ⊖ r.s ⊗ at w (b + i) in
          let second = r.s ⊗ at w (a + i) ⊕ r.c ⊗ at w (b + i) in
          rw (get_or-set_other w k (a + i) x nan (λ e. p (sym e)), get_or-set_other w k (b + i) x nan (λ e. q (sym e)), set_comm w k (a + i) x first p, set_comm (set w (a + i) first) k (b + i) x second q)

  -- and so do the columns
  rotated_leaves : (rows k : ℕ) → ((i : ℕ) → i < rows → (k ≢ a + i) × (k ≢ b + i)) → Leaves k (rotated a b rows r)
  unfolding rotated
  rotated_leaves rows k h = record {
    kept = λ w. upto_keeps (λ s t. at s k ≡ at w k) (rotate_step a b r) (rotate_step a b r) 0 rows w w (λ i s t p q e. (one i q).kept s ∙ e) refl;
    stored = λ x w. sym (upto_past (λ s. set s k x) (rotate_step a b r) 0 rows w (λ i s p q. sym ((one i q).stored x s)));
  }
    where
      one : (i : ℕ) → i < rows → Leaves k (rotate_step a b r i)
      one i l = step_leaves i k (h i l).0 (h i l).1

-- ---- what leaves two columns alone: their sums are the same, and they may be turned before it or behind it

module _ (a b rows : ℕ) (turn : Vec → Vec) (h : (i : ℕ) → i < rows → Leaves (a + i) turn × Leaves (b + i) turn) where
  gram_kept : (w : Vec) → gram a b rows (turn w) ≡ gram a b rows w
  unfolding gram
  gram_kept w = upto_same (gram_step a b (turn w)) (gram_step a b w) 0 rows _
      (λ i x p q. rw ((h i q).0.kept w, (h i q).1.kept w))

  rotated_past : (r : Rotation) (w : Vec) → turn (rotated a b rows r w) ≡ rotated a b rows r (turn w)
  unfolding rotated
  rotated_past r w = upto_past turn (rotate_step a b r) 0 rows w one
    where
      one : (i : ℕ) (s : Vec) → 0 ≤ i → i < rows → turn (rotate_step a b r i s) ≡ rotate_step a b r i (turn s)
      one i s p q =
          let first = r.c ⊗ at s (a + i) ⊖ r.s ⊗ at s (b + i) in
          let second = r.s ⊗ at s (a + i) ⊕ r.c ⊗ at s (b + i) in
          rw ((h i q).0.kept s, (h i q).1.kept s, (h i q).1.stored second (set s (a + i) first), (h i q).0.stored first s)

-- ---- the columns of w

module _ (rows cols : ℕ) where
  -- no number of u stands in v
  u_v : (e p i j : ℕ) → e < cols → j < rows → u_at rows e + j ≢ v_at rows cols p + i
  u_v e p i j l m z = omega (arith, cell cols rows e j l m, mul_comm cols rows)

  -- and none in two columns
  u_u : (e p i j : ℕ) → p ≢ e → j < rows → i < rows → u_at rows e + j ≢ u_at rows p + i
  u_u e p i j d l m z = d (sym (one_place rows j e i p l m z).1)

  v_v : (e p i j : ℕ) → p ≢ e → j < cols → i < cols → v_at rows cols e + j ≢ v_at rows cols p + i
  v_v e p i j d l m z = d (sym (one_place cols j e i p l m (omega arith)).1)

-- ---- two pairs of four different columns

-- each is one of cols columns, and neither p nor q is e or f
pub record Apart (cols p q e f : ℕ) : Type 0 where
  pub p_in : p < cols
  pub q_in : q < cols
  pub e_in : e < cols
  pub f_in : f < cols
  pub p_e : p ≢ e
  pub p_f : p ≢ f
  pub q_e : q ≢ e
  pub q_f : q ≢ f

swapped : (cols p q e f : ℕ) → Apart cols p q e f → Apart cols e f p q
swapped cols p q e f d = record {
  p_in = d.e_in;
  q_in = d.f_in;
  e_in = d.p_in;
  f_in = d.q_in;
  p_e = λ z. d.p_e (sym z);
  p_f = λ z. d.q_e (sym z);
  q_e = λ z. d.p_f (sym z);
  q_f = λ z. d.q_f (sym z);
}

-- a pair is the pair by its sums
pub pair_is : (rows cols p q : ℕ) (x : Bool × Vec) → pair_done rows cols p q x ≡ pair_by rows cols p q (gram (u_at rows p) (u_at rows q) rows x.1) x
unfolding pair_done pair_by turned
pair_is rows cols p q x = refl

module _ (rows cols p q e f : ℕ) (d : Apart cols p q e f) where
  -- turning columns p and q leaves columns e and f of both factors alone
  leaves_u : (r : Rotation) (i : ℕ) → i < rows → Leaves (u_at rows e + i) (turned rows cols p q r) × Leaves (u_at rows f + i) (turned rows cols p q r)
  unfolding turned
  leaves_u r i l = (one e d.e_in d.p_e d.q_e, one f d.f_in d.p_f d.q_f)
    where
      one : (c : ℕ) → c < cols → p ≢ c → q ≢ c → Leaves (u_at rows c + i) (turned rows cols p q r)
      one c m n o = leaves_both _ (rotated (v_at rows cols p) (v_at rows cols q) cols r) (rotated (u_at rows p) (u_at rows q) rows r)
          (rotated_leaves (v_at rows cols p) (v_at rows cols q) r cols _ (λ j _. (u_v rows cols c p j i m l, u_v rows cols c q j i m l)))
          (rotated_leaves (u_at rows p) (u_at rows q) r rows _ (λ j k. (u_u rows cols c p j i n l k, u_u rows cols c q j i o l k)))

  leaves_v : (r : Rotation) (i : ℕ) → i < cols → Leaves (v_at rows cols e + i) (turned rows cols p q r) × Leaves (v_at rows cols f + i) (turned rows cols p q r)
  unfolding turned
  leaves_v r i l = (one e d.p_e d.q_e, one f d.p_f d.q_f)
    where
      one : (c : ℕ) → p ≢ c → q ≢ c → Leaves (v_at rows cols c + i) (turned rows cols p q r)
      one c n o = leaves_both _ (rotated (v_at rows cols p) (v_at rows cols q) cols r) (rotated (u_at rows p) (u_at rows q) rows r)
          (rotated_leaves (v_at rows cols p) (v_at rows cols q) r cols _ (λ j k. (v_v rows cols c p j i n l k, v_v rows cols c q j i o l k)))
          (rotated_leaves (u_at rows p) (u_at rows q) r rows _ (λ j k. ((λ z. u_v rows cols p c i j d.p_in k (sym z)), λ z. u_v rows cols q c i j d.q_in k (sym z))))

  -- so e and f may be turned before or behind
  turned_past : (r s : Rotation) (w : Vec) → turned rows cols p q r (turned rows cols e f s w) ≡ turned rows cols e f s (turned rows cols p q r w)
  unfolding turned
  turned_past r s w =
      rotated_past (v_at rows cols e) (v_at rows cols f) cols (turned rows cols p q r) (leaves_v r) s (rotated (u_at rows e) (u_at rows f) rows s w)
      ∙ ap (rotated (v_at rows cols e) (v_at rows cols f) cols s) (rotated_past (u_at rows e) (u_at rows f) rows (turned rows cols p q r) (leaves_u r) s w)

  by_past : (g h : Sums) (x : Bool × Vec) → pair_by rows cols p q g (pair_by rows cols e f h x) ≡ pair_by rows cols e f h (pair_by rows cols p q g x)
  unfolding pair_by
  by_past g h x = go (skipped g) (skipped h)
    where
      first : Bool → Bool × Vec → Bool × Vec
      first b x = cond b x (true, turned rows cols p q (rotation_of g) x.1)

      second : Bool → Bool × Vec → Bool × Vec
      second b x = cond b x (true, turned rows cols e f (rotation_of h) x.1)

      go : (b c : Bool) → first b (second c x) ≡ second c (first b x)
      go true true = refl
      go true false = refl
      go false true = refl
      go false false = ap (λ (w : Vec). (true, w)) (turned_past (rotation_of g) (rotation_of h) x.1)

  -- the sums of e and f stay
  by_sums : (g : Sums) (x : Bool × Vec) → gram (u_at rows e) (u_at rows f) rows (pair_by rows cols p q g x).1 ≡ gram (u_at rows e) (u_at rows f) rows x.1
  unfolding pair_by
  by_sums g x = go (skipped g)
    where
      go : (b : Bool) → gram (u_at rows e) (u_at rows f) rows (cond b x (true, turned rows cols p q (rotation_of g) x.1)).1 ≡ gram (u_at rows e) (u_at rows f) rows x.1
      go true = refl
      go false = gram_kept (u_at rows e) (u_at rows f) rows (turned rows cols p q (rotation_of g)) (leaves_u (rotation_of g)) x.1

  -- so those of both pairs may be taken before either is turned
  pub both_sums : (x : Bool × Vec)
      → pair_by rows cols e f (gram (u_at rows e) (u_at rows f) rows x.1) (pair_by rows cols p q (gram (u_at rows p) (u_at rows q) rows x.1) x)
      ≡ pair_done rows cols e f (pair_done rows cols p q x)
  both_sums x =
      let g : Sums = gram (u_at rows p) (u_at rows q) rows x.1 in
      rw (pair_is rows cols p q x, pair_is rows cols e f (pair_by rows cols p q g x), by_sums g x)

-- and the pairs may change places, what they say of a change included
pub apart : (rows cols p q e f : ℕ) → Apart cols p q e f → (x : Bool × Vec)
    → pair_done rows cols p q (pair_done rows cols e f x) ≡ pair_done rows cols e f (pair_done rows cols p q x)
apart rows cols p q e f d x =
    sym (both_sums rows cols e f p q (swapped cols p q e f d) x)
    ∙ by_past rows cols p q e f d (gram (u_at rows p) (u_at rows q) rows x.1) (gram (u_at rows e) (u_at rows f) rows x.1) x
    ∙ both_sums rows cols p q e f d x
