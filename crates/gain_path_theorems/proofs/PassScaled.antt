-- One QL pass of `tql2` in two runs whose d and e differ by 2 ^ k: c, s and v are the same, and d and e differ by 2 ^ k again (`pass_scaled`). Laws only.
use Rattle.std.specs.Prelude.{◌≡◌, refl, Bool, true, false, cond, ◌++◌, T, ltb, Float, set}
use Rattle.std.proofs.Common.{sym, ap, ap₂, ◌∙◌, subst₂, ltb-true, ltb-false}
use Prim.Native.Nat.{ℕ, zero, suc, ◌+◌, ◌-◌, ◌≤◌, ◌<◌}
use native.Mathlib.Omega.{arith}
use Rattle.std.specs.Float.Ieee.{neg}
use Rattle.grid.specs.Loop.{upto, times, fall, drops}
use Rattle.grid.specs.Real.{Vec, at, one64, two64, epsilon, ◌⊕◌, ◌⊖◌, ◌⊗◌, ◌⊘◌}
use Rattle.leaves.specs.Leaf.{magnitude}
use Rattle.leaves.specs.Scan.{first_bad}
use Rattle.hypot.specs.Edition.{pythag}
use Rattle.eigen_tql2_pass.specs.declared.ql_transformation.Spin.{Spin}
use Rattle.eigen_tql2_pass.specs.declared.Run.{Run}
use Rattle.eigen_tql2_pass.specs.Transform.{signed, shift, lessened, rotated, spin, spins, still, landed, transformed}
use Rattle.eigen_tql2_pass.specs.TransformSteps.{less_step}
use Rattle.eigen_tql2_pass.specs.Pass.{tiny, mark1, settled, judged, verdict, Reason, after_pass, pass, going, converged}
use Rattle.svd_gain_theorems.specs.Scale.{fine, Product}
use Rattle.svd_gain_theorems.specs.Along.{Along}
use Rattle.svd_gain_theorems.specs.AlongLaws.{along_both}
use Rattle.svd_gain_theorems.specs.Found.{match, bad_same, both_same}
use Rattle.gain_path_theorems.specs.PassFine.{Drops, Falls, shift_q, ShiftFine, spin_r, spin_s, spin_c, SpinAt, landed_p, LandFine, shift_h, shifted, leveled, turning, turned, TransformFine, PassFine}
use Rattle.gain_path_theorems.specs.Numbers.{Number, Pair, add_n, sub_n, mul_n, mul_l, mul_two, div_eq, div_l, div_two, le_n, magnitude_n, pair_set, pair_at}
use Rattle.gain_path_theorems.proofs.HypotNumbers.{hypot_n}

-- ---- loops

module _ {S : Type 0} where
  drops_both : (R : S → S → Type 0) (f : ℕ → S → S) (P : ℕ → S → Type 0) (a k : ℕ) (s t : S) → Drops f P a k s → Drops f P a k t
      → ((j : ℕ) (x y : S) → P j x → P j y → R x y → R (f j x) (f j y)) → R s t → R (drops f a k s) (drops f a k t)
  unfolding drops Drops
  drops_both R f P a zero s t p q h r = r
  drops_both R f P a (suc k) s t p q h r = drops_both R f P a k (f (a + k) s) (f (a + k) t) p.1 q.1 h (h (a + k) s t p.0 q.0 r)

  pub falls_both : (R : S → S → Type 0) (f : ℕ → S → S) (P : ℕ → S → Type 0) (a b : ℕ) (s t : S) → Falls f P a b s → Falls f P a b t
      → ((j : ℕ) (x y : S) → P j x → P j y → R x y → R (f j x) (f j y)) → R s t → R (fall f a b s) (fall f a b t)
  unfolding fall
  falls_both R f P a b s t p q h r = drops_both R f P a (b - a) s t p q h r

  upto_past : (f : ℕ → S → S) (a b : ℕ) (s : S) → b ≤ a → upto f a b s ≡ s
  unfolding upto times
  upto_past f a b s h =
      let e : b - a ≡ 0 = omega arith in
      rw e

  -- as `along_both`, with a relation that does not speak of the turn, and any bounds
  pub along_keeps : (R : S → S → Type 0) (f g : ℕ → S → S) (P Q : ℕ → S → Type 0) (a b : ℕ) (s t : S) → Along f P a b s → Along g Q a b t
      → ((j : ℕ) (x y : S) → a ≤ j → j < b → P j x → Q j y → R x y → R (f j x) (g j y)) → R s t → R (upto f a b s) (upto g a b t)
  along_keeps R f g P Q a b s t p q h r = go (ltb b a) refl
    where
      go : (c : Bool) → ltb b a ≡ c → R (upto f a b s) (upto g a b t)
      go true e =
          let l : b < a = ltb-true b a e in
          rw (upto_past f a b s (omega arith), upto_past g a b t (omega arith)) r
      go false e = along_both (λ j. R) f g P Q a b s t (ltb-false b a e) p q h r

-- ---- the shift

module _ (k edition l : ℕ) (d e d' e' : Vec) (D : Pair k d d') (E : Pair k e e') (F : ShiftFine edition l d e) (F' : ShiftFine edition l d' e') where
  q_same : shift_q edition l d' e' ≡ shift_q edition l d e
  q_same =
      ap (λ (p : Float). p ⊕ signed p (pythag edition p one64))
      (div_eq k (at d (l + 1) ⊖ at d l) (two64 ⊗ at e l)
      (sub_n k (at d (l + 1)) (at d l) (pair_at k d d' (l + 1) D) (pair_at k d d' l D) F.difference F'.difference)
      (mul_n k two64 (at e l) refl (pair_at k e e' l E) F.twice F'.twice))

  dl : Number k (at e l ⊘ shift_q edition l d e) (at e' l ⊘ shift_q edition l d' e')
  dl = div_l k (at e l) (shift_q edition l d e) (pair_at k e e' l E) q_same F.over F'.over

  shift_h_lem : Number k (shift edition l d e).0 (shift edition l d' e').0
  unfolding shift
  shift_h_lem = sub_n k (at d l) (at e l ⊘ shift_q edition l d e) (pair_at k d d' l D) dl F.less F'.less

  shift_d : Pair k (shift edition l d e).1 (shift edition l d' e').1
  unfolding shift
  shift_d =
      let q = shift_q edition l d e in
      let q' = shift_q edition l d' e' in
      pair_set k (set d l (at e l ⊘ q)) (set d' l (at e' l ⊘ q')) (l + 1) (at e l ⊗ q)
      (pair_set k d d' l (at e l ⊘ q) D dl)
      (mul_l k (at e l) q (pair_at k e e' l E) q_same F.product F'.product)

-- ---- d less h

less_scaled : (k n l : ℕ) (h h' : Float) (d d' : Vec) → Number k h h' → Pair k d d' → Along (less_step h) (λ i d. T (fine (at d i ⊖ h))) (l + 2) n d
    → Along (less_step h') (λ i d. T (fine (at d i ⊖ h'))) (l + 2) n d' → Pair k (lessened n l h d) (lessened n l h' d')
unfolding lessened
less_scaled k n l h h' d d' H D F F' =
    along_keeps (Pair k) (less_step h) (less_step h') (λ i d. T (fine (at d i ⊖ h))) (λ i d. T (fine (at d i ⊖ h'))) (l + 2) n d d' F F'
    (λ j x y _ _ f f' r. pair_set k x y j (at x j ⊖ h) r (sub_n k (at x j) h (pair_at k x y j r) H f f')) D

-- ---- the turns

pub record Spins (k : ℕ) (q q' : Spin) : Type 0 where
  pub c : q'.c ≡ q.c
  pub c2 : q'.c2 ≡ q.c2
  pub c3 : q'.c3 ≡ q.c3
  pub s : q'.s ≡ q.s
  pub s2 : q'.s2 ≡ q.s2
  pub p : Number k q.p q'.p

pub record Turning (k : ℕ) (x x' : Spin × Vec × Vec × Vec) : Type 0 where
  pub q : Spins k x.0 x'.0
  pub v : x'.1 ≡ x.1
  pub d : Pair k x.2 x'.2
  pub e : Pair k x.3 x'.3

still_spins : (k : ℕ) (p : Float) {p' : Float} → Number k p p' → Spins k (still p) (still p')
still_spins k p n = record { c = refl; c2 = refl; c3 = refl; s = refl; s2 = refl; p = n }

spin_scaled : (k n edition i : ℕ) (x x' : Spin × Vec × Vec × Vec) → SpinAt edition i x → SpinAt edition i x' → Turning k x x' → Turning k (spin n edition i x) (spin n edition i x')
unfolding spin
spin_scaled k n edition i (q, v, d, e) (q', v', d', e') F F' h =
    let di = pair_at k d d' i h.d in
    let ei = pair_at k e e' i h.e in
    let Q = h.q in
    let g = mul_n k q.c (at e i) Q.c ei F.g F'.g in
    let hh = mul_n k q.c q.p Q.c Q.p F.h F'.h in
    let r = hypot_n k q.p (at e i) edition Q.p ei F.r F'.r in
    let s : spin_s edition q' (at e' i) ≡ spin_s edition q (at e i) = div_eq k (at e i) (spin_r edition q (at e i)) ei r in
    let c : spin_c edition q' (at e' i) ≡ spin_c edition q (at e i) = div_eq k q.p (spin_r edition q (at e i)) Q.p r in
    let S = spin_s edition q (at e i) in
    let C = spin_c edition q (at e i) in
    let G = q.c ⊗ at e i in
    let p =
    sub_n k (C ⊗ at d i) (S ⊗ G) (mul_n k C (at d i) c di F.cd F'.cd) (mul_n k S G s g F.sg F'.sg) F.p F'.p in
    let sum =
    add_n k (C ⊗ G) (S ⊗ at d i) (mul_n k C G c g F.cg F'.cg) (mul_n k S (at d i) s di F.sd F'.sd) F.sum F'.sum in
    let dn =
    add_n k (q.c ⊗ q.p) (S ⊗ (C ⊗ G ⊕ S ⊗ at d i)) hh (mul_n k S (C ⊗ G ⊕ S ⊗ at d i) s sum F.ss F'.ss) F.d F'.d in
    let en = mul_n k q.s (spin_r edition q (at e i)) Q.s r F.e F'.e in
    record {
      q = record { c = c; c2 = Q.c; c3 = Q.c2; s = s; s2 = Q.s; p = p };
      v = ap₂ (λ (a b : Float). rotated n i a b v') c s ∙ ap (rotated n i C S) h.v;
      d = pair_set k d d' (i + 1) (q.c ⊗ q.p ⊕ S ⊗ (C ⊗ G ⊕ S ⊗ at d i)) h.d dn;
      e = pair_set k e e' (i + 1) (q.s ⊗ spin_r edition q (at e i)) h.e en;
    }

-- ---- what they leave at l

land_p : (k : ℕ) (q q' : Spin) (el1 dl1 el el1' dl1' el' : Float) → Spins k q q' → Number k el1 el1' → Number k dl1 dl1' → Number k el el'
    → LandFine q el1 dl1 el → LandFine q' el1' dl1' el' → Number k (landed_p q el1 dl1 el) (landed_p q' el1' dl1' el')
land_p k q q' el1 dl1 el el1' dl1' el' Q A B C F F' =
    let u = neg q.s ⊗ q.s2 ⊗ q.c3 in
    let same : neg q'.s ⊗ q'.s2 ⊗ q'.c3 ≡ u = ap₂ ◌⊗◌ (ap₂ ◌⊗◌ (ap neg Q.s) Q.s2) Q.c3 in
    div_two k (u ⊗ el1 ⊗ el) dl1 (mul_two k (u ⊗ el1) el (mul_n k u el1 same A F.first F'.first) C F.second F'.second) B F.over F'.over

land_scaled : (k l : ℕ) (q q' : Spin) (el1 dl1 el1' dl1' : Float) (d e d' e' : Vec) → Spins k q q' → Number k el1 el1' → Number k dl1 dl1' → Pair k d d' → Pair k e e'
    → LandFine q el1 dl1 (at e l) → LandFine q' el1' dl1' (at e' l)
    → Pair k (landed l q el1 dl1 (d, e)).0 (landed l q' el1' dl1' (d', e')).0 × Pair k (landed l q el1 dl1 (d, e)).1 (landed l q' el1' dl1' (d', e')).1
unfolding landed
land_scaled k l q q' el1 dl1 el1' dl1' d e d' e' Q A B D E F F' =
    let P = landed_p q el1 dl1 (at e l) in
    let p = land_p k q q' el1 dl1 (at e l) el1' dl1' (at e' l) Q A B (pair_at k e e' l E) F F' in (
      pair_set k d d' l (q.c ⊗ P) D (mul_n k q.c P Q.c p F.d F'.d),
      pair_set k e e' l (q.s ⊗ P) E (mul_n k q.s P Q.s p F.e F'.e),
    )

-- ---- the QL transformation

pub record Transformed (k : ℕ) (x x' : Float × Vec × Vec × Vec) : Type 0 where
  pub h : Number k x.0 x'.0
  pub v : x'.1 ≡ x.1
  pub d : Pair k x.2 x'.2
  pub e : Pair k x.3 x'.3

transform_scaled : (k n edition l m : ℕ) (v d e v' d' e' : Vec) → v' ≡ v → Pair k d d' → Pair k e e' → TransformFine n edition l m (v, d, e)
    → TransformFine n edition l m (v', d', e') → Transformed k (transformed n edition l m (v, d, e)) (transformed n edition l m (v', d', e'))
unfolding transformed spins
transform_scaled k n edition l m v d e v' d' e' vs D E F F' =
    let h = shift_h_lem k edition l d e d' e' D E F.begin F'.begin in
    let d1 = shift_d k edition l d e d' e' D E F.begin F'.begin in
    let d2 = less_scaled k n l (shift_h edition l d e) (shift_h edition l d' e') (shifted edition l d e) (shifted edition l d' e') h d1 F.less F'.less in
    let begun : Turning k (turning n edition l m (v, d, e)) (turning n edition l m (v', d', e')) =
    record { q = still_spins k (at (leveled n edition l d e) m) (pair_at k (leveled n edition l d e) (leveled n edition l d' e') m d2); v = vs; d = d2; e = E } in
    let t = falls_both (Turning k) (spin n edition) (SpinAt edition) l m (turning n edition l m (v, d, e)) (turning n edition l m (v', d', e')) F.turns F'.turns
    (λ j x y f f' r. spin_scaled k n edition j x y f f' r) begun in
    let z =
    land_scaled k l (turned n edition l m (v, d, e)).0 (turned n edition l m (v', d', e')).0 (at e (l + 1)) (at (shifted edition l d e) (l + 1)) (at e' (l + 1)) (at (shifted edition l d' e') (l + 1))
    (turned n edition l m (v, d, e)).2 (turned n edition l m (v, d, e)).3 (turned n edition l m (v', d', e')).2 (turned n edition l m (v', d', e')).3
    t.q (pair_at k e e' (l + 1) E) (pair_at k (shifted edition l d e) (shifted edition l d' e') (l + 1) d1) t.d t.e F.land F'.land in
    record { h = h; v = t.v; d = z.0; e = z.1 }

-- ---- the pass

pub record Runs (k : ℕ) (r r' : Run) : Type 0 where
  pub l : r'.l ≡ r.l
  pub m : r'.m ≡ r.m
  pub f : Number k r.f r'.f
  pub tst1 : Number k r.tst1 r'.tst1
  pub passes : r'.passes ≡ r.passes
  pub count : r'.count ≡ r.count
  pub stop : r'.stop ≡ r.stop
  pub index : r'.index ≡ r.index

pub record States (k : ℕ) (x x' : Run × Vec × Vec × Vec) : Type 0 where
  pub run : Runs k x.0 x'.0
  pub v : x'.1 ≡ x.1
  pub d : Pair k x.2 x'.2
  pub e : Pair k x.3 x'.3

-- the test of e against EPSILON times tst1
pub tiny_same : (k : ℕ) (e e' : Vec) (t : Float) {t' : Float} → Pair k e e' → Number k t t' → Product epsilon t → Product epsilon t' → (i : ℕ) → tiny e' t' i ≡ tiny e t i
tiny_same k e e' t E N P P' i =
    le_n k (magnitude (at e i)) (epsilon ⊗ t) (magnitude_n k (at e i) (pair_at k e e' i E)) (mul_n k epsilon t refl N P P')

pub mark_same : (k : ℕ) (d e d' e' : Vec) → Pair k d d' → Pair k e e' → first_bad (d' ++ e') ≡ first_bad (d ++ e)
mark_same k d e d' e' D E =
    both_same d e d' e' D.alike.long (bad_same d d' (match (λ i. k) d d' D.alike)) (bad_same e e' (match (λ i. k) e e' E.alike))

verdict_same : (k l : ℕ) (t : Float) {t' : Float} (d e d' e' : Vec) → Number k t t' → Pair k d d' → Pair k e e' → Product epsilon t → Product epsilon t' → verdict l t' d' e' ≡ verdict l t d e
unfolding verdict mark1 settled
verdict_same k l t d e d' e' N D E P P' =
    ap₂ judged (mark_same k d e d' e' D E) (ap (λ (b : Bool). cond b converged going) (tiny_same k e e' t E N P P' l))

-- a pass at an l and an m
abbrev pass_at : ℕ → ℕ → Run → ℕ → ℕ → Vec × Vec × Vec → Run × Vec × Vec × Vec
pass_at n edition r l m x =
    let y = transformed n edition l m x in
    (after_pass r y.0 (verdict l r.tst1 y.2 y.3), y.1, y.2, y.3)

-- where l and m are the same numbers
pass_at_lem : (k n edition : ℕ) (r r' : Run) (v d e v' d' e' : Vec) → Runs k r r' → v' ≡ v → Pair k d d' → Pair k e e' → (l m : ℕ) → TransformFine n edition l m (v, d, e)
    → TransformFine n edition l m (v', d', e') → T (fine (r.f ⊕ (transformed n edition l m (v, d, e)).0)) → T (fine (r'.f ⊕ (transformed n edition l m (v', d', e')).0))
    → Product epsilon r.tst1 → Product epsilon r'.tst1 → States k (pass_at n edition r l m (v, d, e)) (pass_at n edition r' l m (v', d', e'))
pass_at_lem k n edition r r' v d e v' d' e' R vs D E l m F F' f f' P P' =
    let t = transform_scaled k n edition l m v d e v' d' e' vs D E F F' in
    let x = transformed n edition l m (v, d, e) in
    let x' = transformed n edition l m (v', d', e') in
    let w : verdict l r'.tst1 x'.2 x'.3 ≡ verdict l r.tst1 x.2 x.3 = verdict_same k l r.tst1 x.2 x.3 x'.2 x'.3 R.tst1 t.d t.e P P' in
    record {
      run = record {
        l = R.l;
        m = R.m;
        f = add_n k r.f x.0 R.f t.h f f';
        tst1 = R.tst1;
        passes = ap (λ (i : ℕ). i + 1) R.passes;
        count = ap (λ (i : ℕ). i + 1) R.count;
        stop = ap (λ (t : Reason). t.stop) w;
        index = ap (λ (t : Reason). t.index) w;
      };
      v = t.v;
      d = t.d;
      e = t.e;
    }

pub pass_scaled : (k n edition : ℕ) (x x' : Run × Vec × Vec × Vec) → PassFine n edition x → PassFine n edition x' → States k x x' → States k (pass n edition x) (pass n edition x')
unfolding pass
pass_scaled k n edition (r, v, d, e) (r', v', d', e') F F' h =
    let R = h.run in
    subst₂ (λ (l m : ℕ). States k (pass_at n edition r r.l r.m (v, d, e)) (pass_at n edition r' l m (v', d', e'))) (sym R.l) (sym R.m)
    (pass_at_lem k n edition r r' v d e v' d' e' R h.v h.d h.e r.l r.m F.transform
    (subst₂ (λ (l m : ℕ). TransformFine n edition l m (v', d', e')) R.l R.m F'.transform) F.f
    (subst₂ (λ (l m : ℕ). T (fine (r'.f ⊕ (transformed n edition l m (v', d', e')).0))) R.l R.m F'.f) F.bound F'.bound)
