-- What the machine keeps of a run, and the loop that skips settled l. Laws only.
use Rattle.std.specs.Prelude.{◌≡◌, Bool, not, ◌&&◌, ltb, set}
use Rattle.std.proofs.Math.Path.{refl, sym, ap}
use Rattle.std.proofs.Common.{◌∙◌, subst, add-mul, mul-le-mul, ltb-true, eqb-true}
use Rattle.std.proofs.Math.Bool.{true, false, cond}
use Prim.Native.Nat.{ℕ, zero, suc, ◌+◌, ◌-◌, ◌*◌, ◌≤◌, ◌<◌, ◌^◌}
use native.Mathlib.Omega.{arith}
use Rattle.std.proofs.lemmas.Bool.{eqb-false}
use Rattle.std.proofs.Math.Dec.{eqb}
use Rattle.grid.specs.Real.{Vec, zero64, at, ◌⊕◌}
use Rattle.eigen_tql2_pass.specs.Pass.{going}
use Rattle.eigen_tql2_pass.specs.declared.Run.{Run}
use Rattle.eigen_tql2.specs.LStartEnd.{State, opened, ended, released, stopping, closed}
use Rattle.eigen_tql2.specs.LStartEndBounds.{split_below}
use Rattle.eigen_tql2_step.specs.SkipSettled.{next_l, gone_on, come, skipped, found_l}
use Rattle.eigen_tql2_step.specs.CheckLaws.{Open}

-- ---- what the code's parts do; no promise speaks of these

abbrev pub onward : Run → Run
onward r = cond (not (eqb r.stop going)) r (next_l r)

-- after a pass: more are to be run at this l
abbrev pub undecided : ℕ → Run → Bool
undecided limit r = eqb r.stop going && ltb r.passes limit

-- else it has settled, or the limit is used up, or mark 1 has ended the run
abbrev pub decided : ℕ → State → State
decided limit x = cond (undecided limit x.0) x (gone_on (closed x))

-- ---- a run that has ended, and one that goes on

pub going_on : (x : State) → x.0.stop ≡ 0 → ended x ≡ false
going_on x q = ap (λ (s : ℕ). not (eqb s 0)) q

pub onward_ended : (x : State) → ended x ≡ true → gone_on x ≡ x
onward_ended x e = λ i. (cond (e i) x.0 (next_l x.0), x.1, x.2, x.3)

pub onward_going : (x : State) → x.0.stop ≡ 0 → gone_on x ≡ (next_l x.0, x.1, x.2, x.3)
onward_going x q = λ i. (cond (going_on x q i) x.0 (next_l x.0), x.1, x.2, x.3)

pub closed_settled : (x : State) → x.0.stop ≡ 1 → closed x ≡ released x
unfolding closed
closed_settled x q = λ i. cond (eqb (q i) 1) (released x) (cond (eqb (q i) 0) (stopping x.0 9, x.1, x.2, x.3) x)

pub closed_l : (x : State) → (closed x).0.l ≡ x.0.l
unfolding closed
closed_l x = go (eqb x.0.stop 1) (eqb x.0.stop 0)
  where
    go : (a b : Bool) → (cond a (released x) (cond b (stopping x.0 9, x.1, x.2, x.3) x)).0.l ≡ x.0.l
    go true b = refl
    go false true = refl
    go false false = refl

-- ---- a run comes to its l

-- the one after a settled l
abbrev pub passed_over : ℕ → State → State
passed_over n x =
    let y = released (come n x) in
    (next_l y.0, y.1, y.2, y.3)

-- settled there, or passes are to be run
pub data Coming (n k : ℕ) (x : State) : Type 0 where
  settles : (come n x).0.stop ≡ 1 → skipped n (suc k) x ≡ skipped n k (passed_over n x) → Coming n k x
  stays : (come n x).0.stop ≡ 0 → (come n x).0.l < (come n x).0.m → skipped n (suc k) x ≡ come n x → Coming n k x

pub coming : (n k : ℕ) (x : State) → Coming n k x
unfolding opened
coming n k x = go (ltb x.0.l (come n x).0.m) refl
  where
    pick : {b : Bool} → ended (come n x) ≡ b → skipped n (suc k) x ≡ cond b (skipped n k (gone_on (closed (come n x)))) (come n x)
    pick e = unfold skipped in λ i. cond (e i) (skipped n k (gone_on (closed (come n x)))) (come n x)

    go : (b : Bool) → ltb x.0.l (come n x).0.m ≡ b → Coming n k x
    go true t = stays (λ i. cond (t i) 0 1) (ltb-true _ _ t) (pick (λ i. not (eqb (cond (t i) 0 1) 0)))
    go false t =
        let q : (come n x).0.stop ≡ 1 = λ i. cond (t i) 0 1 in
        settles q
        (pick (ap (λ (s : ℕ). not (eqb s 0)) q)
        ∙ ap (λ (s : State). skipped n k (gone_on s)) (closed_settled (come n x) q)
        ∙ ap (skipped n k) (onward_going (released (come n x)) refl))

pub come_m : (n : ℕ) (x : State) → x.0.l < n → (come n x).0.m < n
unfolding opened
come_m n x h = split_below n x.0.l _ x.3 h

pub record Same (x y : Run) : Type 0 where
  pub l : y.l ≡ x.l
  pub count : y.count ≡ x.count
  pub passes : y.passes ≡ 0
  pub index : y.index ≡ 0

pub come_same : (n : ℕ) (x : State) → Same x.0 (come n x).0
unfolding opened
come_same n x = record { l = refl; count = refl; passes = refl; index = refl }

-- l has its value, and the next comes
abbrev pub left : State → State
left x = (next_l (stopping x.0 0), x.1, set x.2 x.0.l (at x.2 x.0.l ⊕ x.0.f), set x.3 x.0.l zero64)

pub left_open : (n limit : ℕ) (x : State) → x.0.l < n → x.0.m < n → 0 < limit → x.0.count ≤ x.0.l * limit + limit → Open n limit (left x).0
left_open n limit x h m z c =
    record {
      going = refl;
      at_most = omega arith;
      within = m;
      fewer = z;
      above = λ q. absurd (q refl);
      counted = omega arith;
      bounded = omega (arith, add-mul x.0.l 1 limit);
      unmarked = refl;
    }

-- ---- the l that are skipped: y is what the search comes to from x

pub record Found (n limit : ℕ) (x y : State) : Type 0 where
  pub opens : Open n limit y.0
  pub above : y.0.l < n → y.0.l < y.0.m
  pub count : y.0.count ≡ x.0.count

-- P is what else is kept
module _ (n limit : ℕ) (P : State → Type 0) (leaves : (x : State) → x.0.l < n → P x → P (left x)) (comes : (x : State) → P x → P (come n x)) where
  skip_found : (k : ℕ) (x : State) → x.0.l + k ≡ n → x.0.passes ≡ 0 → Open n limit x.0 → P x → Found n limit x (skipped n k x) × P (skipped n k x)
  unfolding skipped
  skip_found zero x h p o b = (record { opens = o; above = λ q. absurd (omega arith); count = refl }, b)
  skip_found (suc k) x h p o b =
      go (coming n k x)
      (skip_found k (left (come n x)) (omega (arith, s.l)) refl
      (left_open n limit (come n x) (omega (arith, s.l)) (come_m n x (omega arith)) (omega (arith, o.fewer)) most)
      (leaves (come n x) (omega (arith, s.l)) (comes x b)))
    where
      s : Same x.0 (come n x).0
      s = come_same n x

      Kept : State → Type 0
      Kept y = Found n limit x y × P y

      most : (come n x).0.count ≤ (come n x).0.l * limit + limit
      most = subst (λ (l : ℕ). (come n x).0.count ≤ l * limit + limit) (sym s.l) (omega (arith, s.count, o.bounded))

      go : Coming n k x → Found n limit (left (come n x)) (skipped n k (left (come n x))) × P (skipped n k (left (come n x))) → Kept (skipped n (suc k) x)
      go (settles t e) f = subst Kept (sym e) (record { opens = f.0.opens; above = f.0.above; count = f.0.count ∙ s.count }, f.1)
      go (stays t a e) f =
          subst Kept (sym e) (
            record {
              opens = record {
                going = t;
                at_most = omega (arith, s.l);
                within = come_m n x (omega arith);
                fewer = omega (arith, o.fewer, s.passes);
                above = λ q. a;
                counted = omega (arith, s.passes);
                bounded = subst (λ (l : ℕ). (come n x).0.count ≤ l * limit + (come n x).0.passes) (sym s.l) (omega (arith, s.count, s.passes, o.bounded));
                unmarked = s.index;
              };
              above = λ q. a;
              count = s.count;
            },
            comes x b,
          )

  pub found_found : (x : State) → Open n limit x.0 → P x → Found n limit x (found_l n x) × P (found_l n x)
  unfolding found_l
  found_found x o b = go (eqb x.0.passes 0) refl
    where
      go : (t : Bool) → eqb x.0.passes 0 ≡ t → Found n limit x (cond t (skipped n (n - x.0.l) x) x) × P (cond t (skipped n (n - x.0.l) x) x)
      go true t = skip_found (n - x.0.l) x (omega (arith, o.at_most)) (eqb-true _ _ t) o b
      go false t = (record { opens = o; above = λ q. o.above (eqb-false _ _ t); count = refl }, b)

-- the run alone
pub found_open : (n limit : ℕ) (x : State) → Open n limit x.0 → Found n limit x (found_l n x)
found_open n limit x o = (found_found n limit (λ y. 0 ≤ 0) (λ y h p. p) (λ y p. p) x o (omega arith)).0

-- ---- the loop that skips: r is the run at its head, q has come to r's l, z has its value, w goes on

pub closed_at : (r z : Run) (v d e d' e' : Vec) → ◌≡◌ {A = State} (z, v, d', e') (closed (r, v, d, e)) → z.l ≡ r.l
closed_at r z v d e d' e' g = ap (λ (s : State). s.0.l) g ∙ closed_l (r, v, d, e)

pub skip_none : (n : ℕ) (r : Run) (v d e : Vec) {R : State} → n ≤ r.l → skipped n (n - r.l) (r, v, d, e) ≡ R → (r, v, d, e) ≡ R
unfolding skipped
skip_none n r v d e h t =
    let j : n - r.l ≡ 0 = omega arith in
    sym (ap (λ (j : ℕ). skipped n j (r, v, d, e)) j) ∙ t

module _ (n : ℕ) (r q : Run) (v d e : Vec) (h : r.l < n) (g : q ≡ opened n r.l r d e) where
  x : State
  x = (r, v, d, e)

  k : ℕ
  k = n - r.l - 1

  one_more : skipped n (n - r.l) (r, v, d, e) ≡ skipped n (suc k) x
  unfolding k x
  one_more =
      let j : n - r.l ≡ suc (n - r.l - 1) = omega arith in
      ap (λ (j : ℕ). skipped n j (r, v, d, e)) j

  come_is : (q, v, d, e) ≡ come n x
  unfolding x
  come_is = ap (λ (s : Run). (s, v, d, e)) g

  pub skip_here : {R : State} → q.stop ≡ 0 → skipped n (n - r.l) (r, v, d, e) ≡ R → (q, v, d, e) ≡ R
  skip_here {R} s t = go (coming n k x)
    where
      go : Coming n k x → (q, v, d, e) ≡ R
      go (settles u i) = absurd (omega (arith, s, u, ap (λ (y : State). y.0.stop) come_is))
      go (stays u a i) = come_is ∙ sym i ∙ sym one_more ∙ t

  module _ (z w : Run) (d' e' : Vec) (s : q.stop ≡ 0 → ⊥) (c : ◌≡◌ {A = State} (z, v, d', e') (closed (q, v, d, e))) (o : w ≡ onward z) where
    next_is : (come n x).0.stop ≡ 1 → (w, v, d', e') ≡ passed_over n x
    next_is u =
        ap (λ (y : Run). (y, v, d', e')) o
        ∙ ap gone_on (c ∙ ap closed come_is ∙ closed_settled (come n x) u)
        ∙ onward_going (released (come n x)) refl

    next_l_lem : (come n x).0.stop ≡ 1 → w.l ≡ r.l + 1
    unfolding opened x
    next_l_lem u = ap (λ (y : State). y.0.l) (next_is u)

    settled : (come n x).0.stop ≡ 0 → ⊥
    settled u = s (ap (λ (y : State). y.0.stop) come_is ∙ u)

    pub skip_l : w.l ≡ r.l + 1
    skip_l = go (coming n k x)
      where
        go : Coming n k x → w.l ≡ r.l + 1
        go (settles u i) = next_l_lem u
        go (stays u a i) = absurd (settled u)

    pub skip_more : {R : State} → skipped n (n - r.l) (r, v, d, e) ≡ R → skipped n (n - w.l) (w, v, d', e') ≡ R
    unfolding k
    skip_more {R} t = go (coming n k x)
      where
        go : Coming n k x → skipped n (n - w.l) (w, v, d', e') ≡ R
        go (settles u i) =
            let j : n - w.l ≡ n - r.l - 1 = omega (arith, next_l_lem u) in
            ap (λ (j : ℕ). skipped n j (w, v, d', e')) j ∙ ap (skipped n (n - r.l - 1)) (next_is u) ∙ sym i ∙ sym one_more ∙ t
        go (stays u a i) = absurd (settled u)

-- ---- before a pass

pub found_ready : (n limit : ℕ) (r q : Run) (v d e d' e' : Vec) → ◌≡◌ {A = State} (q, v, d', e') (found_l n (r, v, d, e)) → Open n limit r
    → Open n limit q × (q.l < n → q.l < q.m)
found_ready n limit r q v d e d' e' g o =
    let f = found_open n limit (r, v, d, e) o in
    subst (λ (s : State). Open n limit s.0 × (s.0.l < n → s.0.l < s.0.m)) (sym g) (f.opens, f.above)

pub room : (n limit : ℕ) (r : Run) → n ≤ 256 → limit ≤ 60 → Open n limit r → (r.passes + 1 < 2 ^ 64) × (r.count + 1 < 2 ^ 64)
room n limit r h g o =
    let k : r.l ≤ 256 = omega (arith, o.at_most) in
    let m : r.l * limit ≤ 256 * 60 = mul-le-mul k g in
    (omega (arith, o.fewer), omega (arith, o.fewer, o.bounded, m))
