-- One pair of columns, in two runs whose first factors differ by 2 ^ k: the sums differ by 4 ^ k, the test and the rotation are the same, and what is turned differs by 2 ^ k again. Laws only.
use Rattle.std.specs.Prelude.{◌≡◌, refl, Bool, true, false, cond, ◌||◌, ℕ, ◌+◌, ◌*◌, ◌≤◌, ◌<◌, T, pos, Float}
use Rattle.std.proofs.Common.{sym, ap, ap₂, ◌∙◌, subst, mul_comm, arith}
use Rattle.std.specs.Float.{binary64}
use Rattle.std.specs.Float.Ieee.{of_bits, fits, eq, le}
use Rattle.std.specs.Float.Ieee.Fits.{add-fits, mul-fits}
use Rattle.grid.specs.LoopLaws.{upto_keeps}
use Rattle.grid.specs.Real.{Vec, at, zero64, one64, two64, epsilon, ◌⊕◌, ◌⊖◌, ◌⊗◌, ◌⊘◌}
use Rattle.root.specs.Root.{root}
use Rattle.leaves.specs.Leaf.{magnitude}
use Rattle.svd_jacobi_svd_tall.specs.declared.sweep.Sums.{Sums}
use Rattle.svd_jacobi_svd_tall.specs.declared.sweep.Rotation.{Rotation}
use Rattle.svd_jacobi_svd_tall.specs.Sweep.{u_at, v_at, gram, skipped, sign_of, rotation_of, rotated, pair_done}
use Rattle.svd_jacobi_svd_tall.specs.SweepSteps.{gram_step, rotate_step}
use Rattle.grid.specs.TableLaws.{row_end}
use Rattle.svd_gain_theorems.specs.Scale.{scale, Scaled}
use Rattle.svd_gain_theorems.specs.Compare.{eq_scaled, le_scaled, magnitude_scaled}
use Rattle.svd_gain_theorems.proofs.Ops.{mul_scaled, mul_same, add_scaled, sub_scaled, div_same}
use Rattle.svd_gain_theorems.proofs.RootScaled.{root_scaled}
use Rattle.svd_gain_theorems.specs.Along.{Along}
use Rattle.svd_gain_theorems.specs.AlongLaws.{along_both}
use Rattle.svd_gain_theorems.specs.Alike.{Alike, under}
use Rattle.svd_gain_theorems.specs.AlikeLaws.{alike_set, under_in, under_out, equal, equally, powered}
use Rattle.svd_gain_theorems.specs.Fine.{GramFine, nothing, SkipFine, RotationFine, TurnFine, gram_of, PairFine}

-- zero is zero times any power
pub zero_is : (k : ℕ) → Scaled k zero64 zero64
unfolding scale of_bits
zero_is k = refl

pub zero_fits : T (fits binary64 zero64)
unfolding fits of_bits
zero_fits = tt

-- ---- the sums

record Both (k : ℕ) (x y : Sums) : Type 0 where
  alphas : Scaled k x.alpha y.alpha
  betas : Scaled k x.beta y.beta
  gammas : Scaled k x.gamma y.gamma
  alpha_fits : T (fits binary64 x.alpha)
  beta_fits : T (fits binary64 x.beta)
  gamma_fits : T (fits binary64 x.gamma)

gram_both : (k a b rows : ℕ) (w v : Vec) → ((i : ℕ) → i < rows → Scaled k (at w (a + i)) (at v (a + i))) → ((i : ℕ) → i < rows → Scaled k (at w (b + i)) (at v (b + i)))
    → Along (gram_step a b w) (GramFine a b w) 0 rows nothing → Along (gram_step a b v) (GramFine a b v) 0 rows nothing → Both (k + k) (gram a b rows w) (gram a b rows v)
unfolding gram
gram_both k a b rows w v p q f g =
    along_both (λ j x y. Both (k + k) x y) (gram_step a b w) (gram_step a b v) (GramFine a b w) (GramFine a b v) 0 rows nothing nothing (omega arith) f g turn
    (record { alphas = zero_is (k + k); betas = zero_is (k + k); gammas = zero_is (k + k); alpha_fits = zero_fits; beta_fits = zero_fits; gamma_fits = zero_fits })
  where
    turn : (i : ℕ) (x y : Sums) → 0 ≤ i → i < rows → GramFine a b w i x → GramFine a b v i y → Both (k + k) x y → Both (k + k) (gram_step a b w i x) (gram_step a b v i y)
    turn i x y _ l c d h =
        let up = at w (a + i) in
        let uq = at w (b + i) in
        record {
          alphas = add_scaled (k + k) x.alpha (up ⊗ up) h.alphas (mul_scaled k k up up (p i l) (p i l) c.pp d.pp) h.alpha_fits (mul-fits binary64 up up) c.first d.first;
          betas = add_scaled (k + k) x.beta (uq ⊗ uq) h.betas (mul_scaled k k uq uq (q i l) (q i l) c.qq d.qq) h.beta_fits (mul-fits binary64 uq uq) c.second d.second;
          gammas = add_scaled (k + k) x.gamma (up ⊗ uq) h.gammas (mul_scaled k k up uq (p i l) (q i l) c.pq d.pq) h.gamma_fits (mul-fits binary64 up uq) c.third d.third;
          alpha_fits = add-fits binary64 x.alpha (up ⊗ up);
          beta_fits = add-fits binary64 x.beta (uq ⊗ uq);
          gamma_fits = add-fits binary64 x.gamma (up ⊗ uq);
        }

-- ---- the test

skipped_same : (k : ℕ) (x y : Sums) → Both k x y → SkipFine x → SkipFine y → skipped y ≡ skipped x
unfolding skipped
skipped_same k x y h f g = go (eq x.gamma zero64) refl
  where
    zero : eq y.gamma zero64 ≡ eq x.gamma zero64
    zero = ap₂ eq h.gammas (zero_is k) ∙ eq_scaled k x.gamma zero64

    go : (b : Bool) → eq x.gamma zero64 ≡ b
        → (eq y.gamma zero64 || le (magnitude y.gamma) (epsilon ⊗ root (y.alpha ⊗ y.beta)))
        ≡ (eq x.gamma zero64 || le (magnitude x.gamma) (epsilon ⊗ root (x.alpha ⊗ x.beta)))
    go true e = rw (zero, e)
    go false e =
        let e' : eq y.gamma zero64 ≡ false = zero ∙ e in
        let product = mul_scaled k k x.alpha x.beta h.alphas h.betas (f.product e) (g.product e') in
        let rooted = root_scaled k (x.alpha ⊗ x.beta) product (mul-fits binary64 x.alpha x.beta) (mul-fits binary64 y.alpha y.beta) (f.rooted e) (g.rooted e') in
        let bound = mul_same k epsilon (root (x.alpha ⊗ x.beta)) rooted (f.bound e) (g.bound e') in
        ap₂ ◌||◌ zero
        (ap₂ le (ap magnitude h.gammas ∙ magnitude_scaled (pos k) x.gamma) bound ∙ le_scaled k (magnitude x.gamma) (epsilon ⊗ root (x.alpha ⊗ x.beta)))

-- ---- the rotation

rotation_same : (k : ℕ) (x y : Sums) → Both k x y → RotationFine x → RotationFine y → rotation_of y ≡ rotation_of x
unfolding rotation_of
rotation_same k x y h f g = ap by zeta
  where
    by : Float → Rotation
    by zeta =
        let t = sign_of zeta ⊘ (magnitude zeta ⊕ root (one64 ⊕ zeta ⊗ zeta)) in
        let c = one64 ⊘ root (one64 ⊕ t ⊗ t) in
        record { c = c; s = c ⊗ t; t = t }

    zeta : (y.beta ⊖ y.alpha) ⊘ (two64 ⊗ y.gamma) ≡ (x.beta ⊖ x.alpha) ⊘ (two64 ⊗ x.gamma)
    zeta =
        div_same k (x.beta ⊖ x.alpha) (two64 ⊗ x.gamma)
        (sub_scaled k x.beta x.alpha h.betas h.alphas h.beta_fits h.alpha_fits f.difference g.difference)
        (mul_same k two64 x.gamma h.gammas f.twice g.twice)

-- ---- the turning

-- of columns that differ by 2 ^ k
rotated_alike : (κ : ℕ → ℕ) (k a b rows : ℕ) (r : Rotation) (w v : Vec) → ((i : ℕ) → i < rows → κ (a + i) ≡ k) → ((i : ℕ) → i < rows → κ (b + i) ≡ k)
    → Along (rotate_step a b r) (TurnFine a b r) 0 rows w → Along (rotate_step a b r) (TurnFine a b r) 0 rows v → Alike κ w v → Alike κ (rotated a b rows r w) (rotated a b rows r v)
unfolding rotated
rotated_alike κ k a b rows r w v p q f g =
    along_both (λ j x y. Alike κ x y) (rotate_step a b r) (rotate_step a b r) (TurnFine a b r) (TurnFine a b r) 0 rows w v (omega arith) f g turn
  where
    turn : (i : ℕ) (x y : Vec) → 0 ≤ i → i < rows → TurnFine a b r i x → TurnFine a b r i y → Alike κ x y → Alike κ (rotate_step a b r i x) (rotate_step a b r i y)
    turn i x y _ l c d h =
        let up = at x (a + i) in
        let uq = at x (b + i) in
        let ep : Scaled k up (at y (a + i)) = powered up (p i l) (h.each (a + i)) in
        let eq : Scaled k uq (at y (b + i)) = powered uq (q i l) (h.each (b + i)) in
        let first = sub_scaled k (r.c ⊗ up) (r.s ⊗ uq) (mul_same k r.c up ep c.cp d.cp) (mul_same k r.s uq eq c.sq d.sq) (mul-fits binary64 r.c up) (mul-fits binary64 r.s uq) c.first d.first in
        let second = add_scaled k (r.s ⊗ up) (r.c ⊗ uq) (mul_same k r.s up ep c.sp d.sp) (mul_same k r.c uq eq c.cq d.cq) (mul-fits binary64 r.s up) (mul-fits binary64 r.c uq) c.second d.second in
        alike_set κ _ _ (b + i) _ (alike_set κ x y (a + i) _ h (powered (r.c ⊗ up ⊖ r.s ⊗ uq) (sym (p i l)) first)) (powered (r.s ⊗ up ⊕ r.c ⊗ uq) (sym (q i l)) second)

-- of columns that are the same
rotated_same : (κ : ℕ → ℕ) (a b rows : ℕ) (r : Rotation) (w v : Vec) → ((i : ℕ) → i < rows → κ (a + i) ≡ 0) → ((i : ℕ) → i < rows → κ (b + i) ≡ 0)
    → Alike κ w v → Alike κ (rotated a b rows r w) (rotated a b rows r v)
unfolding rotated
rotated_same κ a b rows r w v p q = upto_keeps (λ x y. Alike κ x y) (rotate_step a b r) (rotate_step a b r) 0 rows w v turn
  where
    turn : (i : ℕ) (x y : Vec) → 0 ≤ i → i < rows → Alike κ x y → Alike κ (rotate_step a b r i x) (rotate_step a b r i y)
    turn i x y _ l h =
        let ep : at y (a + i) ≡ at x (a + i) = equal (at x (a + i)) (κ (a + i)) (p i l) (h.each (a + i)) in
        let eq : at y (b + i) ≡ at x (b + i) = equal (at x (b + i)) (κ (b + i)) (q i l) (h.each (b + i)) in
        alike_set κ _ _ (b + i) _ (alike_set κ x y (a + i) _ h (equally _ (κ (a + i)) (p i l) (ap₂ (λ u t. r.c ⊗ u ⊖ r.s ⊗ t) ep eq)))
        (equally _ (κ (b + i)) (q i l) (ap₂ (λ u t. r.s ⊗ u ⊕ r.c ⊗ t) ep eq))

-- ---- the pair

-- the flags agree, and the first factors differ by 2 ^ k
pub record Level (k n : ℕ) (x y : Bool × Vec) : Type 0 where
  pub flag : y.0 ≡ x.0
  pub both : Alike (under k n) x.1 y.1

pub pair_level : (k rows cols p q : ℕ) (x y : Bool × Vec) → p < cols → q < cols → PairFine rows cols p q x → PairFine rows cols p q y → Level k (rows * cols) x y
    → Level k (rows * cols) (pair_done rows cols p q x) (pair_done rows cols p q y)
unfolding pair_done
pair_level k rows cols p q x y P Q f g h = go (skipped gx) refl
  where
    n : ℕ
    n = rows * cols

    gx : Sums
    gx = gram_of rows p q x.1

    gy : Sums
    gy = gram_of rows p q y.1

    inside : (j i : ℕ) → j < cols → i < rows → under k n (u_at rows j + i) ≡ k
    inside j i J l = under_in k n (u_at rows j + i) (omega (arith, row_end cols rows j J, mul_comm cols rows))

    outside : (j i : ℕ) → under k n (v_at rows cols j + i) ≡ 0
    outside j i = under_out k n (v_at rows cols j + i) (omega arith)

    column_of_lem : (j : ℕ) → j < cols → (i : ℕ) → i < rows → Scaled k (at x.1 (u_at rows j + i)) (at y.1 (u_at rows j + i))
    column_of_lem j J i l = powered (at x.1 (u_at rows j + i)) (inside j i J l) (h.both.each (u_at rows j + i))

    sums : Both (k + k) gx gy
    sums = gram_both k (u_at rows p) (u_at rows q) rows x.1 y.1 (column_of_lem p P) (column_of_lem q Q) f.sums g.sums

    same : skipped gy ≡ skipped gx
    same = skipped_same (k + k) gx gy sums f.skip g.skip

    turn : Rotation → Vec → Vec
    turn r w = rotated (v_at rows cols p) (v_at rows cols q) cols r (rotated (u_at rows p) (u_at rows q) rows r w)

    go : (b : Bool) → skipped gx ≡ b
        → Level k n (cond (skipped gx) x (true, turn (rotation_of gx) x.1)) (cond (skipped gy) y (true, turn (rotation_of gy) y.1))
    go true e = rw (same, e) h
    go false e =
        let e' : skipped gy ≡ false = same ∙ e in
        let rot : rotation_of gy ≡ rotation_of gx = rotation_same (k + k) gx gy sums (f.rotation e) (g.rotation e') in
        let along = subst (λ (r : Rotation). Along (rotate_step (u_at rows p) (u_at rows q) r) (TurnFine (u_at rows p) (u_at rows q) r) 0 rows y.1) rot (g.turn e') in
        rw (same, e, rot)
        (record {
          flag = refl;
          both =
              rotated_same (under k n) (v_at rows cols p) (v_at rows cols q) cols (rotation_of gx) _ _ (λ i _. outside p i) (λ i _. outside q i)
              (rotated_alike (under k n) k (u_at rows p) (u_at rows q) rows (rotation_of gx) x.1 y.1 (λ i l. inside p i P l) (λ i l. inside q i Q l) (f.turn e) along h.both);
        })
