-- What a loop makes that stores every element once, whatever stood there before: a table, or rows. Laws only.
use Rattle.std.specs.Prelude.{◌≡◌, refl, [], ◌∷◌, ◌++◌, ℕ, zero, suc, ◌+◌, ◌*◌, ◌-◌, ◌≤◌, ◌<◌, Float, length, take, drop, set}
use Rattle.std.proofs.Common.{ap, append_assoc, add-zero, zero-add, take-append-drop, take_all, take-suc, sym, ◌∙◌, append-nil, ⊎_elim, add-one, le_antisymm, eq-or-lt_of_le, zero-mul, suc-mul, add-mul, mul-le-mul_right, arith, length-append, length-drop, drop_of_length-le, get_or-append-add, drop-cons, length-take-le, take_at}
use Rattle.std.proofs.Math.Decide.{ℕ_discrete}
use Rattle.std.specs.Float.{nan}
use Rattle.std.proofs.lemmas.List.{replicate-append-replicate, get_or_at, set_at}
use Rattle.std.proofs.Math.ListN.{get_or-append}
use Rattle.std.proofs.Math.Seq.{append_snoc, take-append-add}
use Rattle.grid.specs.Loop.{upto}
use Rattle.grid.specs.LoopLaws.{upto_none, upto_more, start}
use Rattle.grid.specs.Real.{Vec, at, zero64, zeros}
use Rattle.grid.specs.CellLaws.{stored, all_of}
use Rattle.grid.specs.Table.{table, rows, part}

pub length_part : (a e : ℕ) (d : Vec) → a ≤ e → e ≤ length d → length (part a e d) ≡ e - a
length_part a e d p q = length-take-le (e - a) (drop a d) (omega (arith, length-drop a d))

pub length_table : (f : ℕ → Float) (n : ℕ) → length (table f n) ≡ n
unfolding table
length_table f zero = refl
length_table f (suc k) = simp length-append (rw (length_table f k) (add-one k))

pub length_rows : (f : ℕ → Vec) (m n : ℕ) → ((k : ℕ) → length (f k) ≡ m) → length (rows f n) ≡ n * m
unfolding rows
length_rows f m zero h = sym (zero-mul m)
length_rows f m (suc n) h = simp length-append (omega (arith, length_rows f m n h, h n, suc-mul n m))

-- element k
pub at_table : (f : ℕ → Float) (n k : ℕ) → k < n → at (table f n) k ≡ f k
unfolding table
at_table f zero k h = absurd (omega arith)
at_table f (suc n) k h = ⊎_elim
    (λ e. rw e (get_or_at (table f n) (f n) [] nan n (length_table f n)))
    (λ l. get_or-append (table f n) (f n ∷ []) nan k (omega (arith, length_table f n)) ∙ at_table f n k l)
    (eq-or-lt_of_le {n = k} {m = n} (omega arith))

pub zeros_table : (n : ℕ) → zeros n ≡ table (λ j. zero64) n
unfolding table
zeros_table zero = refl
zeros_table (suc k) = ap zeros (sym (add-one k)) ∙ sym (replicate-append-replicate k 1 zero64) ∙ ap (λ (l : Vec). l ++ (zero64 ∷ [])) (zeros_table k)

-- two rules that agree
pub table_same : (f g : ℕ → Float) (n : ℕ) → ((k : ℕ) → k < n → f k ≡ g k) → table f n ≡ table g n
unfolding table
table_same f g zero h = refl
table_same f g (suc k) h = rw (table_same f g k (λ j l. h j (omega arith)), h k (omega arith))

-- a vector is the table of its elements
pub table_all : (d : Vec) (n : ℕ) → length d ≡ n → d ≡ table (at d) n
unfolding table
table_all d n h = sym (take_all n d (omega arith)) ∙ go n (omega arith)
  where
    go : (k : ℕ) → k ≤ length d → take k d ≡ table (at d) k
    go zero l = refl
    go (suc k) l = take-suc d k nan (omega arith) ∙ ap (λ (t : Vec). t ++ (at d k ∷ [])) (go k (omega arith))

-- ---- the loop that stores a table: where it begins, one store more, and the whole

pub table_none : (f : ℕ → Float) → ◌≡◌ {A = Vec} [] (table f 0)
unfolding table
table_none f = refl

pub table_more : (f : ℕ → Float) (d : Vec) (k : ℕ) {x : Float} → k < length d → take k d ≡ table f k → x ≡ f k → take (k + 1) (set d k x) ≡ table f (k + 1)
unfolding table
table_more f d k {x} h e g = stored d k x h e ∙ rw (add-one k, g)

pub table_done : (f : ℕ → Float) (d : Vec) {k n : ℕ} → k ≤ n → n ≤ k → length d ≡ n → take k d ≡ table f k → d ≡ table f n
table_done f d {k} {n} p q l e = all_of d k (omega arith) e ∙ ap (table f) (le_antisymm p q)

-- ---- a loop that makes each element anew from what it was

-- the k elements from c on: what stands before them and behind them is as it was
pub each_from : (g : ℕ → Float → Float) (d : Vec) (c k : ℕ) → c + k ≤ length d
    → upto (λ j e. set e j (g j (at e j))) c (c + k) d ≡ take c d ++ (table (λ j. g (c + j) (at d (c + j))) k ++ drop (c + k) d)
unfolding table
each_from g d c zero h =
    rw (add-zero c) (upto_none _ c d ∙ sym (take-append-drop c d))
each_from g d c (suc k) h =
    let F : ℕ → Vec → Vec = λ j e. set e j (g j (at e j)) in
    let f : ℕ → Float = λ j. g (c + j) (at d (c + j)) in
    let P : Vec = take c d ++ table f k in
    let long : length P ≡ c + k = length-append (take c d) (table f k) ∙ omega (arith, length-take-le c d (omega arith), length_table f k) in
    let behind : Vec = drop (suc (c + k)) d in
    let so_far : upto F c (c + k) d ≡ P ++ at d (c + k) ∷ behind =
    each_from g d c k (omega arith) ∙ ap (λ (l : Vec). take c d ++ (table f k ++ l)) (drop-cons d (c + k) nan (omega arith)) ∙ sym (append_assoc (take c d) (table f k) (at d (c + k) ∷ behind)) in
    let last : c + suc k ≡ c + k + 1 = omega arith in
    let tail : suc (c + k) ≡ c + suc k = omega arith in
    ap (λ (z : ℕ). upto F c z d) last
    ∙ upto_more F c (c + k) d (omega arith)
    ∙ ap (F (c + k)) so_far
    ∙ rw (get_or_at P (at d (c + k)) behind nan (c + k) long) (set_at P (at d (c + k)) behind (f k) (c + k) long)
    ∙ append_assoc (take c d) (table f k) (f k ∷ behind)
    ∙ ap (λ (l : Vec). take c d ++ l) (sym (append_snoc (table f k) (f k) behind))
    ∙ ap (λ (z : ℕ). take c d ++ (table f k ++ (f k ∷ []) ++ drop z d)) tail

-- the first k
pub each_so_far : (g : ℕ → Float → Float) (d : Vec) (k : ℕ) → k ≤ length d
    → upto (λ j e. set e j (g j (at e j))) 0 k d ≡ table (λ j. g j (at d j)) k ++ drop k d
each_so_far g d k h =
    ap (λ (b : ℕ). upto (λ j e. set e j (g j (at e j))) 0 b d) (sym (zero-add k))
    ∙ each_from g d 0 k (omega arith)
    ∙ (λ i. table (λ j. g (zero-add j i) (at d (zero-add j i))) k ++ drop (zero-add k i) d)

pub each : (g : ℕ → Float → Float) (d : Vec) (n : ℕ) → length d ≡ n → upto (λ j e. set e j (g j (at e j))) 0 n d ≡ table (λ j. g j (at d j)) n
each g d n h =
    each_so_far g d n (omega arith) ∙ ap (λ (l : Vec). table (λ j. g j (at d j)) n ++ l) (drop_of_length-le d {i = n} (omega arith)) ∙ append-nil _

-- ---- loops side by side: element j is what f j made of +0.0 in so many turns

unfoldable pub turns : (ℕ → ℕ → Float → Float) → ℕ → ℕ → Vec
turns f n i = table (λ j. upto (f j) 0 i zero64) n

pub turns_none : (f : ℕ → ℕ → Float → Float) (n : ℕ) → zeros n ≡ turns f n 0
unfolding turns
turns_none f n = zeros_table n ∙ table_same (λ j. zero64) (λ j. upto (f j) 0 0 zero64) n (λ j _. start (f j) 0 zero64)

pub turns_more : (f : ℕ → ℕ → Float → Float) (n i : ℕ) {d e : Vec} → d ≡ turns f n i → e ≡ table (λ j. f j i (at d j)) n → e ≡ turns f n (i + 1)
unfolding turns
turns_more f n i p q =
    q ∙ table_same _ _ n (λ j l. rw p (ap (f j i) (at_table (λ j. upto (f j) 0 i zero64) n j l) ∙ sym (upto_more (f j) 0 i zero64 (omega arith))))

-- ---- the loop that stores rows of m each: the part from a on has become the next row

pub rows_none : (f : ℕ → Vec) (m : ℕ) (d : Vec) → take (0 * m) d ≡ rows f 0
unfolding rows
rows_none f m d = rw zero-mul

-- row j is within
pub row_end : (n m j : ℕ) → j < n → j * m + m ≤ n * m
row_end n m j h = rw suc-mul at (mul-le-mul_right m h)

-- number i of row t, of rows of m numbers each
pub at_rows : (f : ℕ → Vec) (m k t i : ℕ) → ((j : ℕ) → length (f j) ≡ m) → t < k → i < m → at (rows f k) (t * m + i) ≡ at (f t) i
unfolding rows
at_rows f m zero t i h p q = absurd (omega arith)
at_rows f m (suc k) t i h p q = elim (ℕ_discrete t k) [
  | yes e ↦
      ap (λ (j : ℕ). at (rows f k ++ f k) (j + i)) (ap (λ (j : ℕ). j * m) e ∙ sym (length_rows f m k h))
      ∙ get_or-append-add (rows f k) (f k) i nan ∙ ap (λ (j : ℕ). at (f j) i) (sym e)
  | no d ↦
      get_or-append (rows f k) (f k) nan (t * m + i) (omega (arith, length_rows f m k h, row_end k m t (omega arith))) ∙ at_rows f m k t i h (omega arith) q
]

pub rows_more : (f : ℕ → Vec) (d post : Vec) {row : Vec} (j m : ℕ) → j * m ≤ length d → length row ≡ m → take (j * m) d ≡ rows f j → row ≡ f j
    → take ((j + 1) * m) (take (j * m) d ++ (row ++ post)) ≡ rows f (j + 1)
unfolding rows
rows_more f d post {row} j m l h g r =
    let n : length (take (j * m) d) ≡ j * m = length-take-le (j * m) d l in
    let e : (j + 1) * m ≡ length (take (j * m) d) + length row = omega (arith, add-mul j 1 m) in
    rw (e, take-append-add (take (j * m) d) (row ++ post) (length row), take_at row post (length row) refl, add-one j, g, r)

pub rows_done : (f : ℕ → Vec) (d : Vec) (m : ℕ) {j n : ℕ} → j ≤ n → n ≤ j → length d ≡ n * m → take (j * m) d ≡ rows f j → d ≡ rows f n
rows_done f d m {j} {n} p q l e =
    let s : j ≡ n = le_antisymm p q in
    all_of d (j * m) (rw (l, s) (omega arith)) e ∙ ap (rows f) s
