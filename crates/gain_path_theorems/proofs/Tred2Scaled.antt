-- **tred2_gain**: `tred2` of a matrix and of 2 ^ k times it. Laws only.
use Rattle.std.specs.Prelude.{◌≡◌, refl, Bool, true, false, ℕ, zero, suc, ◌+◌, ◌*◌, ◌-◌, ◌/◌, ◌%◌, ◌≤◌, ◌<◌, ltb, length}
use Rattle.std.proofs.Common.{sym, ◌∙◌, subst, le_antisymm, div-add-mod', div-lt_iff_lt-mul, mod-lt, arith, ltb-true, ltb-false, length-set, ext_get_or}
use Rattle.std.specs.Float.{nan}
use Rattle.std.proofs.Math.ListN.{get_or-eq_default}
use Rattle.grid.specs.Loop.{down}
use Rattle.grid.specs.LoopLaws.{upto_both}
use Rattle.grid.specs.Real.{Vec, at, zero64, one64}
use Rattle.grid.specs.Cell.{at2, put2}
use Rattle.grid.specs.CellLaws.{upto_long}
use Rattle.eigen_tred2_definition.proofs.Sizes.{tred2_diagonal, tred2_square}
use Rattle.eigen_tred2_definition.specs.Tred2.{copy_last, move_last, householder, reduction, accumulation, tred2}
use Rattle.eigen_tred2_definition.specs.Tred2Steps.{copy_last_step, move_step}
use Rattle.gain_path_theorems.specs.Numbers.{Number, Pair, pair_set, pair_at, zero_n}
use Rattle.gain_path_theorems.specs.Places.{Places, place_set, place_as, Cells, cell_put, cell_as, nan_n}
use Rattle.gain_path_theorems.specs.Tred2Fine.{Tred2Fine, Reduced}
use Rattle.gain_path_theorems.proofs.ReductionScaled.{same_n, as_same, less, Before, reduction_scaled}
use Rattle.gain_path_theorems.proofs.AccumulationScaled.{Stands, accumulation_scaled, one_fits}

-- past the end both have a NaN
past : (k : ℕ) (d d' : Vec) (i : ℕ) → length d' ≡ length d → length d ≤ i → Number k (at d i) (at d' i)
past k d d' i e h =
    let h' : length d' ≤ i = omega arith in
    rw (get_or-eq_default d nan h, get_or-eq_default d' nan h') (nan_n k)

-- ---- the last row into d

copied : (n k : ℕ) (v v' d d' : Vec) → Pair k v v' → length d ≡ n → length d' ≡ n → Places k (λ t. t < n) (copy_last n v d) (copy_last n v' d')
unfolding copy_last
copied n k v v' d d' P l l' =
    upto_both (λ j x y. Places k (λ t. t < j) x y) (copy_last_step n v) (copy_last_step n v') 0 n d d' (omega arith)
    (λ j x y _ m r. place_set k (λ t. t < j) (λ t. t < j + 1) x y j (at2 v n (n - 1) j) (λ _. pair_at k v v' (j * n + (n - 1)) P) (λ t o q. less t j q o) r)
    (record { long = l' ∙ sym l; each = λ t q. absurd (omega arith) })

begun : (n k : ℕ) → 0 < n → (v v' d d' e e' : Vec) → Pair k v v' → Pair k e e' → length (copy_last n v d) ≡ n → Places k (λ t. t < n) (copy_last n v d) (copy_last n v' d')
    → Before n k (n - 1) (v, copy_last n v d, e) (v', copy_last n v' d', e')
begun n k p v v' d d' e e' M E l D = record {
  g = all;
  dg = cell_as n k (λ r c. (r ≤ n - 1) × (c ≤ n - 1)) (λ r c. r ≡ c) v v' (λ r c b q. (omega arith, omega arith)) all;
  u = record { long = M.alike.long; each = λ r c b q. absurd (omega (arith, q.0, q.1)) };
  l = record { long = M.alike.long; each = λ r c b q. absurd (omega (arith, q.0)) };
  low = place_as k (λ t. t < n) (λ t. t < n - 1) (copy_last n v d) (copy_last n v' d') (λ t q. omega arith) D;
  high = record { long = D.long; each = λ t q. past 0 (copy_last n v d) (copy_last n v' d') t D.long (omega arith) };
  e = E;
}
  where
    all : Cells n k (λ r c. (r ≤ n - 1) × (c ≤ n - 1)) v v'
    all = record { long = M.alike.long; each = λ r c b q. pair_at k v v' (c * n + r) M }

stands : (n k : ℕ) (x x' : Vec × Vec × Vec) → Before n k 0 x x' → Stands n k 0 x.0 x'.0
stands n k x x' b = record {
  dg = cell_as n k _ _ x.0 x'.0 (λ r c _ q. q.0) b.dg;
  last = cell_as n k (λ r c. (r ≤ 0) × (c ≤ 0)) (λ r c. (suc r ≡ n) × (c < 0)) x.0 x'.0 (λ r c _ q. absurd (omega (arith, q.1))) b.g;
  b = cell_as n 0 (λ r c. (0 < r) × (c < r)) (λ r c. (r < 0) × (c ≤ 0)) x.0 x'.0 (λ r c _ q. absurd (omega (arith, q.0))) b.l;
  u = b.u;
  l = cell_as n 0 (λ r c. (0 < r) × (c < r)) (λ r c. (c < r) × (suc r < n)) x.0 x'.0 (λ r c _ q. (omega (arith, q.0), q.0)) b.l;
}

-- ---- the last row out of v

record Moved (n k j : ℕ) (x x' : Vec × Vec) : Type 0 where
  b : Cells n 0 (λ r c. (suc r < n) × (c < n)) x.0 x'.0
  z : Cells n 0 (λ r c. (suc r ≡ n) × (c < j)) x.0 x'.0
  rest : Cells n k (λ r c. (suc r ≡ n) × (j ≤ c) × (c < n)) x.0 x'.0
  new : Places k (λ t. t < j) x.1 x'.1

moved : (n k : ℕ) → 0 < n → (x x' : Vec × Vec) → length x'.1 ≡ length x.1 → Stands n k (n - 1) x.0 x'.0 → Moved n k n (move_last n x) (move_last n x')
unfolding move_last
moved n k p (v, d) (v', d') l s =
    upto_both (Moved n k) (move_step n) (move_step n) 0 n (v, d) (v', d') (omega arith) step
    (record {
      b = cell_as n 0 (λ r c. (r < n - 1) × (c ≤ n - 1)) (λ r c. (suc r < n) × (c < n)) v v' (λ r c _ q. (omega (arith, q.0), omega (arith, q.1))) s.b;
      z = cell_as n 0 (λ r c. (r < n - 1) × (c ≤ n - 1)) (λ r c. (suc r ≡ n) × (c < 0)) v v' (λ r c _ q. absurd (omega (arith, q.1))) s.b;
      rest = record { long = s.last.long; each = λ r c b q. pick r c b q (ltb c (n - 1)) refl };
      new = record { long = l; each = λ t q. absurd (omega arith) };
    })
  where
    pick : (r c : ℕ) → r < n → (suc r ≡ n) × (0 ≤ c) × (c < n) → (t : Bool) → ltb c (n - 1) ≡ t → Number k (at2 v n r c) (at2 v' n r c)
    pick r c b q true e = s.last.each r c b (q.0, ltb-true c (n - 1) e)
    pick r c b q false e =
        let g : n - 1 ≤ c = ltb-false c (n - 1) e in
        s.dg.each r c b (omega (arith, q.0, q.2), omega (arith, q.0))

    step : (j : ℕ) (x x' : Vec × Vec) → 0 ≤ j → j < n → Moved n k j x x' → Moved n k (j + 1) (move_step n j x) (move_step n j x')
    step j (v, d) (v', d') _ m r =
        let i : n - 1 < n = omega arith in
        let c = r.rest.each (n - 1) j i (omega arith, omega arith, m) in
        record {
          b = cell_put n 0 (λ r c. (suc r < n) × (c < n)) (λ r c. (suc r < n) × (c < n)) v v' (n - 1) j zero64 i (λ _. zero_n 0) (λ _ _ _ t. t) r.b;
          z = cell_put n 0 (λ r c. (suc r ≡ n) × (c < j)) (λ r c. (suc r ≡ n) × (c < j + 1)) v v' (n - 1) j zero64 i (λ _. zero_n 0) (λ r c o t. (t.0, less c j t.1 (λ e. o (omega (arith, t.0), e)))) r.z;
          rest = cell_put n k (λ r c. (suc r ≡ n) × (j ≤ c) × (c < n)) (λ r c. (suc r ≡ n) × (j + 1 ≤ c) × (c < n)) v v' (n - 1) j zero64 i (λ _. zero_n k) (λ r c _ t. (t.0, omega (arith, t.1), t.2)) r.rest;
          new = place_set k (λ t. t < j) (λ t. t < j + 1) d d' j (at2 v n (n - 1) j) (λ _. c) (λ t o q. less t j q o) r.new;
        }

-- ---- the whole

-- a matrix whose cells are the same in both
all_same : (n : ℕ) (v v' : Vec) → length v ≡ n * n → Cells n 0 (λ r c. c < n) v v' → v' ≡ v
all_same n v v' l h = ext_get_or nan v' v h.long (λ p m. at_p p (subst (λ (t : ℕ). p < t) (h.long ∙ l) m) (n_pos n p (subst (λ (t : ℕ). p < t) (h.long ∙ l) m)))
  where
    n_pos : (n p : ℕ) → p < n * n → 0 < n
    n_pos zero p h = absurd (omega arith)
    n_pos (suc n) p h = omega arith

    at_p : (p : ℕ) → p < n * n → 0 < n → at v' p ≡ at v p
    at_p p m q =
        let e : p / n * n + p % n ≡ p = div-add-mod' p n in
        subst (λ (t : ℕ). at v' t ≡ at v t) e (as_same (at2 v n (p % n) (p / n)) (h.each (p % n) (p / n) (mod-lt p q) ((div-lt_iff_lt-mul {k = n} {x = p} {y = n} q).1 m)))

copy_long : (n : ℕ) (v d : Vec) → length d ≡ n → length (copy_last n v d) ≡ n
unfolding copy_last
copy_long n v d l = upto_long (λ (x : Vec). x) (copy_last_step n v) 0 n d (λ j x. length-set x j (at2 v n (n - 1) j)) ∙ l

finished : (n k : ℕ) → 0 < n → (x x' : Vec × Vec) → Moved n k n x x' → Cells n 0 (λ r c. c < n) (put2 x.0 n (n - 1) (n - 1) one64) (put2 x'.0 n (n - 1) (n - 1) one64)
finished n k p x x' m =
    let i : n - 1 < n = omega arith in
    let o : Number 0 one64 one64 = same_n one64 refl one_fits in
    let w = put2 x.0 n (n - 1) (n - 1) one64 in
    let w' = put2 x'.0 n (n - 1) (n - 1) one64 in
    let b : Cells n 0 (λ r c. (suc r < n) × (c < n)) w w' = cell_put n 0 (λ r c. (suc r < n) × (c < n)) (λ r c. (suc r < n) × (c < n)) x.0 x'.0 (n - 1) (n - 1) one64 i (λ _. o) (λ _ _ _ t. t) m.b in
    let z : Cells n 0 (λ r c. (suc r ≡ n) × (c < n)) w w' = cell_put n 0 (λ r c. (suc r ≡ n) × (c < n)) (λ r c. (suc r ≡ n) × (c < n)) x.0 x'.0 (n - 1) (n - 1) one64 i (λ _. o) (λ _ _ _ t. t) m.z in
    record { long = b.long; each = λ r c a q. pick w w' b z r c a q (ltb (suc r) n) refl }
  where
    pick : (w w' : Vec) → Cells n 0 (λ r c. (suc r < n) × (c < n)) w w' → Cells n 0 (λ r c. (suc r ≡ n) × (c < n)) w w' → (r c : ℕ) → r < n → c < n → (t : Bool) → ltb (suc r) n ≡ t
        → Number 0 (at2 w n r c) (at2 w' n r c)
    pick w w' b z r c a q true e = b.each r c a (ltb-true (suc r) n e, q)
    pick w w' b z r c a q false e = z.each r c a (le_antisymm a (ltb-false (suc r) n e), q)

as_pair : (n k : ℕ) (d d' : Vec) → length d ≡ n → Places k (λ t. t < n) d d' → Pair k d d'
as_pair n k d d' l h = record { alike = record { long = h.long; each = λ i. (each i).is }; first = λ i. (each i).first; second = λ i. (each i).second }
  where
    each : (i : ℕ) → Number k (at d i) (at d' i)
    each i = go (ltb i n) refl
      where
        go : (t : Bool) → ltb i n ≡ t → Number k (at d i) (at d' i)
        go true e = h.each i (ltb-true i n e)
        go false e =
            let g : n ≤ i = ltb-false i n e in
            past k d d' i h.long (omega arith)

pub tred2_scaled : (n k : ℕ) → 0 < n → (v v' d d' e e' : Vec) → Pair k v v' → Pair k e e' → length v ≡ n * n → length d ≡ n → length d' ≡ n
    → Tred2Fine n (v, d, e) → Tred2Fine n (v', d', e') → Reduced k (tred2 n (v, d, e)) (tred2 n (v', d', e'))
unfolding tred2 reduction
tred2_scaled n k p v v' d d' e e' M E lv ld ld' F F' =
    let x : Vec × Vec × Vec = (v, copy_last n v d, e) in
    let x' : Vec × Vec × Vec = (v', copy_last n v' d', e') in
    let y = down (householder n) (n - 1) x in
    let y' = down (householder n) (n - 1) x' in
    let b = reduction_scaled n k (n - 1) (omega arith) x x' (begun n k p v v' d d' e e' M E (copy_long n v d ld) (copied n k v v' d d' M ld ld')) F F' in
    let a = accumulation_scaled n k p (y.0, y.1) (y'.0, y'.1) (stands n k y y' b) b.high in
    let m = moved n k p (accumulation n (y.0, y.1)) (accumulation n (y'.0, y'.1)) a.1.long a.0 in
    record {
      v = all_same n _ _ (tred2_square n (v, d, e) ∙ lv) (finished n k p (move_last n (accumulation n (y.0, y.1))) (move_last n (accumulation n (y'.0, y'.1))) m);
      d = as_pair n k _ _ (tred2_diagonal n (v, d, e) ∙ ld) m.new;
      e = pair_set k y.2 y'.2 0 zero64 b.e (zero_n k);
    }
