-- tred2 reads nothing above the diagonal. Laws only.
-- Two matrices that agree on and below it, whatever d and e hold before, have one result (`lower`). Assumes nothing.
use Rattle.std.specs.Prelude.{◌≡◌, refl, Bool, true, false, cond, ◌≢◌, ℕ, zero, suc, ◌+◌, ◌*◌, ◌-◌, ◌/◌, ◌%◌, ◌≤◌, ◌<◌, Float, length, set}
use Rattle.std.proofs.Common.{sym, ap, ◌∙◌, subst, div-add-mod', mod-lt, div-lt_iff_lt-mul, arith}
use Rattle.std.proofs.Math.Decide.{ℕ_discrete, dec_lt}
use Rattle.std.specs.Float.Ieee.{eq}
use Rattle.grid.specs.LoopLaws.{upto_both, upto_keeps, upto_same, down_both}
use Rattle.grid.specs.Real.{Vec, zero64, one64, at, ◌⊕◌, ◌⊖◌, ◌⊗◌, ◌⊘◌}
use Rattle.grid.specs.Cell.{at2, put2}
use Rattle.grid.specs.CellLaws.{Sized}
use Rattle.root.specs.Root.{root}
use Rattle.eigen_tred2_definition.specs.Tred2.{scale_of, skip_row, over_scale, clear, against, generate, similar_column, similarity, over_h, lessen, update_column, updates, reflect, skip, reduce, householder, reduction, accumulation, copy_last, move_last, tred2}
use Rattle.eigen_tred2_definition.specs.Tred2Steps.{skip_step, clear_step, similar_step, similarity_step, update_step, updates_step, copy_last_step}
use Rattle.eigen_tred2_definition.proofs.Agree.{Agree, stored, kept, fewer, whole, of_equal, beyond_end}

-- The places of the matrix at which the two agree once columns i + 1 .. n - 1 are done, and of column i the first j rows.
data Known (n i j : ℕ) : ℕ → Type 0 where
  low : (r c : ℕ) → c ≤ r → r < n → Known n i j (c * n + r)
  right : (r c : ℕ) → i < c → c < n → r < n → Known n i j (c * n + r)
  column : (r : ℕ) → r < j → Known n i j (i * n + r)
  none : (k : ℕ) → n * n ≤ k → Known n i j k

-- one more row of column i
one_more : (n i j k : ℕ) → k ≢ i * n + j → Known n i (j + 1) k → Known n i j k
one_more n i j k d (low r c h l) = low r c h l
one_more n i j k d (right r c h g l) = right r c h g l
one_more n i j k d (column r h) = elim (ℕ_discrete r j) [
  | yes e ↦ absurd (d (ap (λ (x : ℕ). i * n + x) e))
  | no e ↦ column r (omega arith)
]
one_more n i j k d (none m h) = none m h

-- the whole of it above the diagonal: on to column i
next_column : (n i k : ℕ) → Known n i 0 k → Known n (suc i) (suc i) k
next_column n i k (low r c h l) = low r c h l
next_column n i k (right r c h g l) = elim (dec_lt (suc i) c) [
  | yes p ↦ right r c p g l
  | no p ↦ elim (dec_lt r (suc i)) [
    | yes q ↦
        let e : suc i ≡ c = omega arith in
        subst (λ (x : ℕ). Known n (suc i) (suc i) (x * n + r)) e (column r q)
    | no q ↦ low r c (omega arith) l
  ]
]
next_column n i k (column r h) = absurd (omega arith)
next_column n i k (none m h) = none m h

-- and in the end all
all : (n k : ℕ) → Known n 0 0 k
all n k = elim (dec_lt k (n * n)) [
  | no h ↦ none k (omega arith)
  | yes h ↦
      let z : 0 < n = pos n k h in
      let l : k % n < n = mod-lt k z in
      let g : k / n < n = (div-lt_iff_lt-mul z).1 h in
      subst (Known n 0 0) (div-add-mod' k n) (elim (dec_lt 0 (k / n)) [
        | yes p ↦ right (k % n) (k / n) p g l
        | no p ↦ low (k % n) (k / n) (omega arith) l
      ])
]
  where
    pos : (n k : ℕ) → k < n * n → 0 < n
    pos zero k h = absurd (omega arith)
    pos (suc n) k h = omega arith

-- ---- the loops of one column. M is the agreement of the matrices.

abbrev M : ℕ → ℕ → ℕ → Vec → Vec → Type 0
M n i j v w = Agree (Known n i j) v w

-- a matrix, and a list
abbrev Two : ℕ → ℕ → ℕ → Vec × Vec → Vec × Vec → Type 0
Two n i j s t = M n i j s.0 t.0 × (s.1 ≡ t.1)

skip_row_both : (n i : ℕ) (s t : Vec × Vec) → i < n → Two n i 0 s t → Two n i i (skip_row n i s) (skip_row n i t)
unfolding skip_row
skip_row_both n i s t l r = upto_both (Two n i) (skip_step n i) (skip_step n i) 0 i s t (omega arith)
    (λ j s t a b r. (
      stored (Known n i (j + 1)) (i * n + j) refl (one_more n i j) (kept (j * n + i) refl r.0),
      λ q. set (r.1 q) j (r.0.same (j * n + (i - 1)) (low (i - 1) j (omega arith) (omega arith)) q),
    )) r

similar_column_both : (n i j k : ℕ) (f : Float) (d v w : Vec) (s : Float × Vec) → i < n → M n i k v w → similar_column n i j f v d s ≡ similar_column n i j f w d s
unfolding similar_column
similar_column_both n i j k f d v w s l r = upto_same (similar_step n j f v d) (similar_step n j f w d) (j + 1) i s
    (λ m s a b. λ q.
    let x = r.same (j * n + m) (low m j (omega arith) (omega arith)) q in
    (s.0 ⊕ x ⊗ at d m, set s.1 m (at s.1 m ⊕ x ⊗ f)))

similarity_both : (n i : ℕ) (d : Vec) (s t : Vec × Vec) → i < n → Two n i 0 s t → Two n i i (similarity n i d s) (similarity n i d t)
unfolding similarity
similarity_both n i d s t l r = upto_both (Two n i) (similarity_step n i d) (similarity_step n i d) 0 i s t (omega arith) turn r
  where
    turn : (j : ℕ) (s t : Vec × Vec) → 0 ≤ j → j < i → Two n i j s t → Two n i (j + 1) (similarity_step n i d j s) (similarity_step n i d j t)
    turn j s t a b r =
        let f = at d j in
        let v = put2 s.0 n j i f in
        let w = put2 t.0 n j i f in
        let m : M n i (j + 1) v w = stored (Known n i (j + 1)) (i * n + j) refl (one_more n i j) r.0 in
        let x : Path (Float × Vec) (similar_column n i j f v d (at s.1 j ⊕ at2 v n j j ⊗ f, s.1)) (similar_column n i j f w d (at t.1 j ⊕ at2 w n j j ⊗ f, t.1)) =
        similar_column_both n i j (j + 1) f d v w (at s.1 j ⊕ at2 v n j j ⊗ f, s.1) l m
        ∙ (λ q. similar_column n i j f w d (at (r.1 q) j ⊕ m.same (j * n + j) (low j j (omega arith) (omega arith)) q ⊗ f, r.1 q)) in
        (m, λ q. set (x q).1 j (x q).0)

update_column_both : (n i j : ℕ) (f g : Float) (d e v w : Vec) → i < n → M n i i v w → M n i i (update_column n i j f g d e v) (update_column n i j f g d e w)
unfolding update_column
update_column_both n i j f g d e v w l r = upto_keeps (M n i i) (update_step n j f g d e) (update_step n j f g d e) j i v w
    (λ k v w a b r. kept (j * n + k)
    (λ q. r.same (j * n + k) (low k j (omega arith) (omega arith)) q ⊖ (f ⊗ at e k ⊕ g ⊗ at d k)) r) r

updates_both : (n i : ℕ) (e : Vec) (s t : Vec × Vec) → i < n → Two n i i s t → Two n i i (updates n i e s) (updates n i e t)
unfolding updates
updates_both n i e s t l r = upto_keeps (Two n i i) (updates_step n i e) (updates_step n i e) 0 i s t turn r
  where
    turn : (j : ℕ) (s t : Vec × Vec) → 0 ≤ j → j < i → Two n i i s t → Two n i i (updates_step n i e j s) (updates_step n i e j t)
    turn j s t a b r =
        let v = update_column n i j (at s.1 j) (at e j) s.1 e s.0 in
        let w = update_column n i j (at t.1 j) (at e j) t.1 e t.0 in
        let m : M n i i v w = subst (λ (d : Vec). M n i i v (update_column n i j (at d j) (at e j) d e t.0)) r.1 (update_column_both n i j (at s.1 j) (at e j) s.1 e s.0 t.0 l r.0) in
        (kept (j * n + i) refl m, λ q. set (r.1 q) j (m.same (j * n + (i - 1)) (low (i - 1) j (omega arith) (omega arith)) q))

-- ---- e: what it holds at and below i is stored before it is read

after : (j k : ℕ) → k ≢ j → k < j + 1 → k < j
after j k d h = omega arith

past : (i k : ℕ) → (k < i → k < 0) → i ≤ k
past i k p = elim (dec_lt k i) [
  | yes h ↦ absurd (never k (p h))
  | no h ↦ omega arith
]
  where
    never : (k : ℕ) → k < 0 → ⊥
    never k h = omega arith

clear_both : (i : ℕ) (x : Float) (e f : Vec) → Agree (λ k. i < k) e f → clear i (set e i x) ≡ clear i (set f i x)
unfolding clear
clear_both i x e f r = whole (λ k l. l)
    (upto_both (λ j. Agree (λ k. k < i → k < j)) clear_step clear_step 0 i (set e i x) (set f i x) (omega arith)
    (λ j e f a b r. stored (λ k. k < i → k < j + 1) j refl (λ k d p l. after j k d (p l)) r)
    (stored (λ k. k < i → k < 0) i refl (λ k d p. above k d (past i k p)) r))
  where
    above : (k : ℕ) → k ≢ i → i ≤ k → i < k
    above k d p = omega arith

generate_both : (i : ℕ) (scale : Float) (d e f : Vec) → Agree (λ k. i < k) e f → generate i scale d e ≡ generate i scale d f
unfolding generate
generate_both i scale d e f r =
    let a = over_scale i scale d in
    let g = against (at a.1 (i - 1)) (root a.0) in
    ap (λ (c : Vec). (a.0 ⊖ at a.1 (i - 1) ⊗ g, set a.1 (i - 1) (at a.1 (i - 1) ⊖ g), c)) (clear_both i (scale ⊗ g) e f r)

-- ---- one i

-- after `reduce`: h, the matrix, d, and e from i on
abbrev Four : ℕ → ℕ → Float × Vec × Vec × Vec → Float × Vec × Vec × Vec → Type 0
Four n i s t = (s.0 ≡ t.0) × M n i i s.1 t.1 × (s.2 ≡ t.2) × Agree (λ k. i ≤ k) s.3 t.3

-- between two i
abbrev Three : ℕ → ℕ → Vec × Vec × Vec → Vec × Vec × Vec → Type 0
Three n i s t = M n i 0 s.0 t.0 × (s.1 ≡ t.1) × Agree (λ k. i < k) s.2 t.2

skip_both : (n i : ℕ) (v w d e f : Vec) → i < n → M n i 0 v w → Agree (λ k. i < k) e f → Four n i (skip n i (v, d, e)) (skip n i (w, d, f))
unfolding skip
skip_both n i v w d e f l m r =
    let u = skip_row_both n i (v, d) (w, d) l (m, refl) in
    (refl, u.0, u.1, stored (λ k. i ≤ k) i refl (λ k d p. omega arith) r)

-- `reflect`, after `generate`
abbrev rest : ℕ → ℕ → Vec → Float × Vec × Vec → Float × Vec × Vec × Vec
rest n i v a =
    let h = a.0 in
    let d = a.1 in
    let b = similarity n i d (v, a.2) in
    let t = over_h i h d b.1 in
    let e = lessen i (t.0 ⊘ (h ⊕ h)) d t.1 in
    let u = updates n i e (b.0, d) in
    (h, u.0, u.1, e)

rest_both : (n i : ℕ) (v w : Vec) (a : Float × Vec × Vec) → i < n → M n i 0 v w → Four n i (rest n i v a) (rest n i w a)
rest_both n i v w a l m =
    let h = a.0 in
    let d = a.1 in
    let b = similarity n i d (v, a.2) in
    let c = similarity n i d (w, a.2) in
    let r : Two n i i b c = similarity_both n i d (v, a.2) (w, a.2) l (m, refl) in
    let last : Vec → Vec = λ e. lessen i ((over_h i h d e).0 ⊘ (h ⊕ h)) d (over_h i h d e).1 in
    let e : last b.1 ≡ last c.1 = ap last r.1 in
    let u : Two n i i (updates n i (last b.1) (b.0, d)) (updates n i (last c.1) (c.0, d)) =
    subst (λ (e : Vec). Two n i i (updates n i (last b.1) (b.0, d)) (updates n i e (c.0, d))) e (updates_both n i (last b.1) (b.0, d) (c.0, d) l (r.0, refl)) in
    (refl, u.0, u.1, of_equal (λ k. i ≤ k) e)

reflect_both : (n i : ℕ) (scale : Float) (v w d e f : Vec) → i < n → M n i 0 v w → Agree (λ k. i < k) e f → Four n i (reflect n i scale (v, d, e)) (reflect n i scale (w, d, f))
unfolding reflect
reflect_both n i scale v w d e f l m r =
    subst (λ (a : Float × Vec × Vec). Four n i (rest n i v (generate i scale d e)) (rest n i w a)) (generate_both i scale d e f r) (rest_both n i v w (generate i scale d e) l m)

reduce_both : (n i : ℕ) (scale : Float) (v w d e f : Vec) → i < n → M n i 0 v w → Agree (λ k. i < k) e f → Four n i (reduce n i scale (v, d, e)) (reduce n i scale (w, d, f))
unfolding reduce
reduce_both n i scale v w d e f l m r = either (eq scale zero64) (skip_both n i v w d e f l m r) (reflect_both n i scale v w d e f l m r)
  where
    either : (b : Bool) {s t s' t' : Float × Vec × Vec × Vec} → Four n i s t → Four n i s' t' → Four n i (cond b s s') (cond b t t')
    either true x y = x
    either false x y = y

householder_both : (n i : ℕ) (s t : Vec × Vec × Vec) → suc i < n → Three n (suc i) s t → Three n i (householder n (suc i) s) (householder n (suc i) t)
unfolding householder
householder_both n i s t l r = subst (λ (d : Vec). Three n i (householder n (suc i) s) (householder n (suc i) (t.0, d, t.2))) r.1 (
    let u = reduce_both n (suc i) (scale_of (suc i) s.1) s.0 t.0 s.1 s.2 t.2 l r.0 r.2 in
    (fewer (Known n i 0) (next_column n i) u.1, λ q. set (u.2 q) (suc i) (u.0 q), u.3))

reduction_both : (n : ℕ) (s t : Vec × Vec × Vec) → 0 < n → Three n (n - 1) s t → Three n 0 (reduction n s) (reduction n t)
unfolding reduction
reduction_both n s t z r = down_both (Three n) (householder n) (householder n) (n - 1) s t (λ i s t l r. householder_both n i s t (omega arith) r) r

-- ---- the whole

-- d is stored whole before it is read
copy_last_both : (n : ℕ) (v w c d : Vec) → 0 < n → M n (n - 1) 0 v w → length c ≡ n → length d ≡ n → copy_last n v c ≡ copy_last n w d
unfolding copy_last
copy_last_both n v w c d z m p q = whole (λ k h. h)
    (upto_both (λ j. Agree (λ k. k < n → k < j)) (copy_last_step n v) (copy_last_step n w) 0 n c d (omega arith)
    (λ j c d a b x. stored (λ k. k < n → k < j + 1) j (m.same (j * n + (n - 1)) (low (n - 1) j (omega arith) (omega arith))) (λ k d p l. after j k d (p l)) x)
    (record { long = p ∙ sym q; same = λ k h. beyond_end c d k (p ∙ sym q) (subst (λ (x : ℕ). x ≤ k) (sym p) (past n k h)) }))

-- matrices that agree on and below the diagonal, and d and e of any contents
pub lower : (n : ℕ) (v w d d' e e' : Vec) → 0 < n → Sized n v d e → Sized n w d' e' → ((i j : ℕ) → j ≤ i → i < n → at2 v n i j ≡ at2 w n i j)
    → tred2 n (v, d, e) ≡ tred2 n (w, d', e')
unfolding tred2
lower n v w d d' e e' z s t h =
    let lv : length v ≡ length w = s.square ∙ sym t.square in
    let le : length e ≡ length e' = s.beside ∙ sym t.beside in
    let m : M n (n - 1) 0 v w = record { long = lv; same = first } in
    let r : Three n 0 (reduction n (v, copy_last n v d, e)) (reduction n (w, copy_last n w d', e')) =
    reduction_both n (v, copy_last n v d, e) (w, copy_last n w d', e') z (
      m,
      copy_last_both n v w d d' z m s.diagonal t.diagonal,
      record { long = le; same = λ k l. beyond_end e e' k le (omega (arith, s.beside)) },
    ) in
    let a = whole (all n) r.0 in
    let c = whole (λ k. tt) (stored (λ k. Unit) 0 refl (λ k d u. omega arith) r.2) in
    λ q.
    let b = move_last n (accumulation n (a q, r.1 q)) in
    (put2 b.0 n (n - 1) (n - 1) one64, b.1, c q)
  where
    first : (k : ℕ) → Known n (n - 1) 0 k → at v k ≡ at w k
    first k (low r c p l) = h r c p l
    first k (right r c p g l) = absurd (omega arith)
    first k (column r p) = absurd (omega arith)
    first k (none m p) = beyond_end v w m (s.square ∙ sym t.square) (omega (arith, s.square))
