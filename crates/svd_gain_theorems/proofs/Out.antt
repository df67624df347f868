-- Into the work array and out of it, in two runs: what is loaded of matrices that differ by 2 ^ k, the order of values that do, and the results that are laid out. Laws only.
use Rattle.std.specs.Prelude.{◌≡◌, refl, Bool, true, false, cond, not, ◌||◌, ◌&&◌, List, ℕ, ◌+◌, ◌*◌, ◌≤◌, ◌<◌, ltb, leb, eqb, Float, length, set, get_or, replicate}
use Rattle.std.proofs.Common.{sym, ap, ap₂, ◌∙◌, subst, mul_comm, arith, ltb-true, ltb-false, lt-ltb, le-ltb}
use Rattle.std.specs.Float.{nan}
use Rattle.std.specs.Float.Ieee.{lt}
use Rattle.std.proofs.lemmas.List.{length-replicate, get_or-replicate}
use Rattle.std.proofs.Math.ListN.{get_or-eq_default}
use Rattle.grid.specs.LoopLaws.{upto_keeps, upto_same}
use Rattle.grid.specs.Real.{Vec, at, zeros, zero64, one64}
use Rattle.grid.specs.Cell.{entry}
use Rattle.grid.specs.CellLaws.{cell}
use Rattle.answers.specs.Answers.{least, present, decomposition_length}
use Rattle.grid.specs.TableLaws.{row_end}
use Rattle.svd_sort_svd_descending.specs.Order.{ahead, rank}
use Rattle.svd_sort_svd_descending.specs.Rank.{note_step, noted, noted_below}
use Rattle.svd_sort_svd_descending.specs.ResultSizes.{left_side, right_side, factor_room}
use Rattle.svd_sort_svd_descending.specs.Result.{longest, work_length, sorted_out}
use Rattle.svd_sort_svd_descending.specs.OutLaws.{cell_step, column_out, sort_step, factor_out, offset, out_of, out_sorted}
use Rattle.svd.specs.Svd.{source, loaded}
use Rattle.svd.specs.LoadedLaws.{load_step, column_loaded, matrix_loaded, eye_step, eyed, loaded_in, loaded_is}
use Rattle.svd_gain_theorems.specs.Scale.{scale, Scaled}
use Rattle.svd_gain_theorems.specs.Compare.{lt_scaled}
use Rattle.svd_gain_theorems.specs.Alike.{Alike, under}
use Rattle.svd_gain_theorems.specs.AlikeLaws.{alike_set, under_in, under_out, equal, equally, powered}
use Rattle.svd_gain_theorems.proofs.Turn.{zero_is}
use Rattle.svd_gain_theorems.proofs.Values.{powers, stage}

-- ---- zeros, and what is loaded

pub zeros_alike : (κ : ℕ → ℕ) (n : ℕ) → Alike κ (zeros n) (zeros n)
unfolding scale
zeros_alike κ n = record { long = refl; each = λ i. go i (ltb i n) refl }
  where
    go : (i : ℕ) (b : Bool) → ltb i n ≡ b → Scaled (κ i) (at (zeros n) i) (at (zeros n) i)
    go i true e = rw (get_or-replicate n i zero64 nan (ltb-true i n e)) (zero_is (κ i))
    go i false e = rw (get_or-eq_default (zeros n) nan (out (ltb-false i n e)))
      where
        out : n ≤ i → length (zeros n) ≤ i
        out h = omega (arith, length-replicate n zero64)

in_alike : (k m n N : ℕ) (a b : Vec) → ((i : ℕ) → Scaled k (at a i) (at b i))
    → Alike (under k (longest m n * least m n)) (loaded_in m n a (zeros N)) (loaded_in m n b (zeros N))
unfolding loaded_in eyed matrix_loaded column_loaded source
in_alike k m n N a b h =
    upto_keeps (Alike κ) (eye_step rows cols) (eye_step rows cols) 0 cols _ _
    (λ j x y _ _ e. alike_set κ x y (rows * cols + j * cols + j) one64 e (equally one64 _ (under_out k (rows * cols) (rows * cols + j * cols + j) (omega arith)) refl))
    (upto_keeps (Alike κ) (column_loaded m n rows a) (column_loaded m n rows b) 0 cols (zeros N) (zeros N)
    (λ j x y _ J e.
    upto_keeps (Alike κ) (load_step m n rows a j) (load_step m n rows b j) 0 rows x y
    (λ i x y _ l e. alike_set κ x y (j * rows + i) (source m n a i j) e
    (powered (source m n a i j) (sym (under_in k (rows * cols) (j * rows + i) (omega (arith, row_end cols rows j J, mul_comm cols rows)))) (cell_of (ltb m n) i j))) e)
    (zeros_alike κ N))
  where
    rows : ℕ
    rows = longest m n

    cols : ℕ
    cols = least m n

    κ : ℕ → ℕ
    κ = under k (rows * cols)

    cell_of : (t : Bool) (i j : ℕ) → Scaled k (cond t (entry a n j i) (entry a n i j)) (cond t (entry b n j i) (entry b n i j))
    cell_of true i j = h (j * n + i)
    cell_of false i j = h (i * n + j)

pub loaded_alike : (k m n : ℕ) (a b : Vec) → ((i : ℕ) → Scaled k (at a i) (at b i)) → Alike (under k (longest m n * least m n)) (loaded m n a) (loaded m n b)
loaded_alike k m n a b h = rw (← loaded_is m n a, ← loaded_is m n b) (in_alike k m n (work_length m n) a b h)

-- ---- the order

noted_same : (k r : ℕ) (s t : ℕ → Float) → ((j : ℕ) → j < r → Scaled k (s j) (t j)) → noted t r (replicate 256 0) ≡ noted s r (replicate 256 0)
unfolding noted rank
noted_same k r s t h = upto_same (note_step t r) (note_step s r) 0 r (replicate 256 0) (λ j o _ J. ap (λ (p : ℕ). set o p j) (places j J))
  where
    less : (i j : ℕ) → i < r → j < r → lt (t i) (t j) ≡ lt (s i) (s j)
    less i j I J = ap₂ lt (h i I) (h j J) ∙ lt_scaled k (s i) (s j)

    places : (j : ℕ) → j < r → rank t r j ≡ rank s r j
    places j J =
        upto_same (λ i c. c + cond (ahead t i j) 1 0) (λ i c. c + cond (ahead s i j) 1 0) 0 r 0
        (λ i c _ I. ap₂ (λ x y. c + cond (x || not y && ltb i j) 1 0) (less j i J I) (less i j I J))

-- ---- one factor laid out

pub factor_alike : (ρ : ℕ → ℕ) (cols from rows to down across : ℕ) (w v : Vec) (o : List ℕ) (x y : Vec)
    → ((k i : ℕ) → k < cols → i < rows → Scaled (ρ (to + k * across + i * down)) (at w (from + get_or o k 0 * rows + i)) (at v (from + get_or o k 0 * rows + i)))
    → Alike ρ x y → Alike ρ (factor_out cols from rows to down across w o x) (factor_out cols from rows to down across v o y)
unfolding factor_out column_out
factor_alike ρ cols from rows to down across w v o x y h =
    upto_keeps (Alike ρ) (sort_step from rows to down across w o) (sort_step from rows to down across v o) 0 cols x y
    (λ k x y _ K.
    upto_keeps (Alike ρ) (cell_step (from + get_or o k 0 * rows) (to + k * across) down w) (cell_step (from + get_or o k 0 * rows) (to + k * across) down v) 0 rows x y
    (λ i x y _ I e. alike_set ρ x y (to + k * across + i * down) (at w (from + get_or o k 0 * rows + i)) e (h k i K I)))

-- ---- the whole result: the values by 2 ^ k, and both factors the same

-- a number of either factor
factor_power : (k n base t i : ℕ) → i < base → powers k n base n t i ≡ 0
factor_power k n base t i h = go (ltb i n)
  where
    go : (b : Bool) → cond b 0 (cond b k (cond (ltb i base) 0 (cond (ltb i (base + t)) k 0))) ≡ 0
    go true = refl
    go false = rw (lt-ltb i base h)

value_power : (k n base t i : ℕ) → n ≤ base → i < t → powers k n base n t (base + i) ≡ k
value_power k n base t i p q =
    rw (le-ltb (base + i) n (omega arith), le-ltb (base + i) base (omega arith), lt-ltb (base + i) (base + t) (omega arith))

present_less : (flag r k : ℕ) → k < present flag r → k < r
unfolding present
present_less flag r k h = go (eqb flag 0) h
  where
    go : (b : Bool) → k < cond b 0 r → k < r
    go true h = absurd (omega arith)
    go false h = h

out_alike : (k m n want_u want_vt : ℕ) (w v x y : Vec) → least m n ≤ 256
    → Alike (stage k (longest m n) (least m n) (longest m n * least m n) (least m n)) w v → Alike (under k (least m n)) x y
    → Alike (under k (least m n)) (out_of m n want_u want_vt w x) (out_of m n want_u want_vt v y)
unfolding out_of
out_alike k m n want_u want_vt w v x y few h e =
    rw orders
    (factor_alike ρ (present want_vt r) (offset (leb n m) second) n (r + present want_u (m * r)) 1 n w v o _ _
    (λ j i J I. same j (offset (leb n m) second + get_or o j 0 * n + i) (r + present want_u (m * r) + j * n + i * 1) (omega arith)
    (reads (offset (leb n m) second) n j i (present_less want_vt r j J) I (factor_room m n (leb n m) n (right_side m n))))
    (factor_alike ρ (present want_u r) (offset (ltb m n) second) m r r 1 w v o _ _
    (λ j i J I. same j (offset (ltb m n) second + get_or o j 0 * m + i) (r + j * 1 + i * r) (omega arith)
    (reads (offset (ltb m n) second) m j i (present_less want_u r j J) I (factor_room m n (ltb m n) m (left_side m n))))
    (factor_alike ρ r base 1 0 1 1 w v o x y first e)))
  where
    r : ℕ
    r = least m n

    second : ℕ
    second = longest m n * least m n

    base : ℕ
    base = second + r * r

    ρ : ℕ → ℕ
    ρ = under k r

    o : List ℕ
    o = noted (λ j. at w (base + j)) r (replicate 256 0)

    value : (j : ℕ) → j < r → Scaled k (at w (base + j)) (at v (base + j))
    value j J = powered (at w (base + j)) (value_power k second base r j (omega arith) J) (h.each (base + j))

    orders : noted (λ j. at v (base + j)) r (replicate 256 0) ≡ o
    orders = noted_same k r (λ j. at w (base + j)) (λ j. at v (base + j)) value

    reads : (from rows j i : ℕ) → j < r → i < rows → from + r * rows ≤ base → from + get_or o j 0 * rows + i < base
    reads from rows j i J I room = omega (arith, cell r rows (get_or o j 0) i (noted_below (λ j. at w (base + j)) r few j J) I)

    same : (j a b : ℕ) → r ≤ b → a < base → Scaled (ρ b) (at w a) (at v a)
    same j a b B A = equally (at w a) (ρ b) (under_out k r b B) (equal (at w a) (powers k second base second r a) (factor_power k second base r a A) (h.each a))

    first : (j i : ℕ) → j < r → i < 1 → Scaled (ρ (0 + j * 1 + i * 1)) (at w (base + get_or o j 0 * 1 + i)) (at v (base + get_or o j 0 * 1 + i))
    first j i J I =
        let a = get_or o j 0 in
        let here : base + a ≡ base + a * 1 + i = omega arith in
        subst (λ (z : ℕ). Scaled (ρ (0 + j * 1 + i * 1)) (at w z) (at v z)) here
        (powered (at w (base + a)) (sym (under_in k r (0 + j * 1 + i * 1) (omega arith))) (value a (noted_below (λ j. at w (base + j)) r few j J)))

pub sorted_alike : (k m n want_u want_vt : ℕ) (w v : Vec) → least m n ≤ 256 → Alike (stage k (longest m n) (least m n) (longest m n * least m n) (least m n)) w v
    → Alike (under k (least m n)) (sorted_out m n want_u want_vt w) (sorted_out m n want_u want_vt v)
sorted_alike k m n want_u want_vt w v few h =
    let N : ℕ = decomposition_length m n want_u want_vt in
    let same : (w : Vec) → out_of m n want_u want_vt w (zeros N) ≡ sorted_out m n want_u want_vt w = λ w. out_sorted m n want_u want_vt w (zeros N) few (length-replicate N zero64) in
    rw (← same w, ← same v) (out_alike k m n want_u want_vt w v (zeros N) (zeros N) few h (zeros_alike (under k (least m n)) N))
