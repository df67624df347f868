-- What a scan says, and how its code counts. Laws only.
use Rattle.leaves.specs.declared.Bad.{Bad}
use Rattle.std.specs.Prelude.{◌≡◌, refl, ◌⊎◌, ◌++◌, Bool, true, false, cond, not, ℕ, zero, suc, ◌+◌, ◌-◌, ◌*◌, ◌/◌, ◌%◌, ◌^◌, ◌<◌, ◌≤◌, leb, ltb, eqb, Float, length, Option, Some, None, is_some}
use Rattle.std.specs.Option.{option_or}
use Rattle.std.proofs.Common.{sym, ap, ◌∙◌, subst, inl, inr, ⊎_elim, true≢false, div-add-mod', div-lt_iff_lt-mul, eq-or-lt_of_le, arith, ltb-true, ltb-false, leb-true, le-ltb, length-append, get_or-append-add}
use Rattle.std.proofs.Math.Decide.{ℕ_discrete, dec_lt}
use Rattle.std.proofs.lemmas.Bool.{not-false}
use Rattle.std.specs.Float.{nan, inf, fin}
use Rattle.std.proofs.Math.ListN.{get_or-append}
use Rattle.grid.specs.Loop.{seek, first}
use Rattle.grid.specs.Real.{Vec, at}
use Rattle.grid.specs.Cell.{entry, at2}
use Rattle.grid.specs.Table.{table}
use Rattle.grid.specs.TableLaws.{length_table, at_table}
use Rattle.leaves.specs.Leaf.{is_finite}
use Rattle.leaves.specs.Scan.{class_of, scan, first_bad, first_bad_lower, by_rows, place_of, lower_of, bad_at}
use Rattle.leaves.specs.Finite.{Finite, First}
use Rattle.leaves.specs.declared.Place.{Place}

-- the parts of what is found
index_of : Option Bad → ℕ
index_of (Some bad) = bad.index
index_of None = 0

kind_of : Option Bad → ℕ
kind_of (Some bad) = bad.class
kind_of None = 0

not-true : (b : Bool) → not b ≡ true → b ≡ false
not-true true e = absurd (true≢false (sym e))
not-true false e = refl

-- the place after p where n are in a row
unfoldable pub after : ℕ → Place → Place
after n p = cond (eqb (p.j + 1) n) (record { i = p.i + 1; j = 0 }) (record { i = p.i; j = p.j + 1 })

-- ---- two searches that look for the same

seek_same : (p q : ℕ → Bool) (a k : ℕ) → ((j : ℕ) → a ≤ j → j < a + k → p j ≡ q j) → seek p a k ≡ seek q a k
unfolding seek
seek_same p q a zero h = refl
seek_same p q a (suc k) h =
    rw (h a (omega arith) (omega arith)) (ap (cond (q a) a) (seek_same p q (a + 1) k (λ j l m. h j (omega arith) (omega arith))))

pub first_same : (p q : ℕ → Bool) (b : ℕ) → ((j : ℕ) → j < b → p j ≡ q j) → first p 0 b ≡ first q 0 b
unfolding first
first_same p q b h = seek_same p q 0 (b - 0) (λ j l m. h j (omega arith))

-- ---- nothing found: it is nowhere below n; and the other way

seek_none : (p : ℕ → Bool) (a k : ℕ) → a + k ≤ seek p a k → (j : ℕ) → a ≤ j → j < a + k → p j ≡ false
unfolding seek
seek_none p a zero h j l m = absurd (omega arith)
seek_none p a (suc k) h j l m = go (p a) refl (λ g q. seek_none p (a + 1) k (omega arith) j (omega arith) (omega arith))
  where
    go : (b : Bool) → p a ≡ b → (a + suc k ≤ seek p (a + 1) k → a < j → p j ≡ false) → p j ≡ false
    go true e next = absurd (let g : a + suc k ≤ a = rw e at h in omega arith)
    go false e next = ⊎_elim (λ (q : a ≡ j). rw (← q) e) (next (rw e at h)) (eq-or-lt_of_le l)

seek_never : (a k : ℕ) → seek (λ j. false) a k ≡ a + k
unfolding seek
seek_never a zero = omega arith
seek_never a (suc k) = seek_never (a + 1) k ∙ omega arith

-- a search among n numbers x ended at k
abbrev pub found : (ℕ → Float) → ℕ → ℕ → Option Bad
found x k n = cond (ltb k n) (bad_at k (class_of (x k))) None

found_out : (x : ℕ → Float) (r n : ℕ) → found x r n ≡ None → n ≤ r
found_out x r n e = go (ltb r n) refl
  where
    go : (b : Bool) → ltb r n ≡ b → n ≤ r
    go true g = absurd (true≢false (ap is_some (rw g at e)))
    go false g = ltb-false r n g

pub nowhere : (p : ℕ → Bool) (x : ℕ → Float) (n : ℕ) → found x (first p 0 n) n ≡ None → (k : ℕ) → k < n → p k ≡ false
unfolding first
nowhere p x n e k h = seek_none p 0 (n - 0) (omega (arith, found_out x (first p 0 n) n e)) k (omega arith) (omega arith)

pub never : (p : ℕ → Bool) (x : ℕ → Float) (n : ℕ) → ((k : ℕ) → k < n → p k ≡ false) → found x (first p 0 n) n ≡ None
unfolding first
never p x n h = rw (first_same p (λ k. false) n h, seek_never 0 (n - 0)) (rw (le-ltb (0 + (n - 0)) n (omega arith)))

pub not_bad : (b : Option Bad) → is_some b ≡ false → b ≡ None
not_bad (Some bad) e = absurd (true≢false e)
not_bad None e = refl

-- ---- nothing is found exactly where all is finite

pub scan_none : (x : ℕ → Float) (n : ℕ) → scan x n ≡ None → (k : ℕ) → k < n → is_finite (x k) ≡ true
unfolding scan
scan_none x n e k h = not-false _ (nowhere (λ k. not (is_finite (x k))) x n e k h)

pub scan_fine : (x : ℕ → Float) (n : ℕ) → ((k : ℕ) → k < n → is_finite (x k) ≡ true) → scan x n ≡ None
unfolding scan
scan_fine x n h = never (λ k. not (is_finite (x k))) x n (λ k l. ap not (h k l))

pub first_bad_none : (d : Vec) → first_bad d ≡ None → Finite d
first_bad_none d = scan_none (at d) (length d)

pub first_bad_fine : (d : Vec) → Finite d → first_bad d ≡ None
first_bad_fine d = scan_fine (at d) (length d)

-- ---- what is found is the first, and the first is found

seek_first : (p : ℕ → Bool) (a k : ℕ) → seek p a k < a + k → (p (seek p a k) ≡ true) × ((j : ℕ) → a ≤ j → j < seek p a k → p j ≡ false)
unfolding seek
seek_first p a zero h = absurd (omega arith)
seek_first p a (suc k) h = go (p a) refl (λ g. seek_first p (a + 1) k g)
  where
    Ends : ℕ → Type 0
    Ends r = (p r ≡ true) × ((j : ℕ) → a ≤ j → j < r → p j ≡ false)

    go : (b : Bool) → p a ≡ b → (seek p (a + 1) k < a + 1 + k → (p (seek p (a + 1) k) ≡ true) × ((j : ℕ) → a + 1 ≤ j → j < seek p (a + 1) k → p j ≡ false)) → Ends (cond (p a) a (seek p (a + 1) k))
    go true e later = rw e (e, λ j l m. absurd (omega arith))
    go false e later =
        let g : seek p (a + 1) k < a + suc k = rw e at h in
        let w = later (omega arith) in
        rw e (w.0, λ j l m. ⊎_elim (λ (q : a ≡ j). rw (← q) e) (λ q. w.1 j (omega arith) m) (eq-or-lt_of_le l))

pub scan_first : (x : ℕ → Float) (n i c : ℕ) → scan x n ≡ bad_at i c → First x n i c
unfolding scan first index_of kind_of
scan_first x n i c e = go (ltb r n) refl
  where
    p : ℕ → Bool
    p k = not (is_finite (x k))

    r : ℕ
    r = seek p 0 (n - 0)

    go : (b : Bool) → ltb r n ≡ b → First x n i c
    go true g =
        let h : r < n = ltb-true r n g in
        let f : bad_at r (class_of (x r)) ≡ bad_at i c = rw g at e in
        let w = seek_first p 0 (n - 0) (omega arith) in
        let q : r ≡ i = ap index_of f in
        let s : class_of (x r) ≡ c = ap kind_of f in
        record {
          within = rw (← q) h;
          seen = rw (← q) (not-true _ w.0);
          class = sym s ∙ ap (λ (k : ℕ). class_of (x k)) q;
          before = λ k l. not-false _ (w.1 k (omega arith) (rw q l));
        }
    go false g = absurd (true≢false (sym (ap is_some (rw g at e))))

-- one at most is the first
pub first_once : (x : ℕ → Float) (n i c j d : ℕ) → First x n i c → First x n j d → bad_at i c ≡ bad_at j d
first_once x n i c j d f g = elim (ℕ_discrete i j) [
  | yes e ↦ (λ k. bad_at (e k) (h e k))
  | no e ↦ elim (dec_lt i j) [
    | yes l ↦ absurd (true≢false (sym (g.before i l) ∙ f.seen))
    | no l ↦ absurd (true≢false (sym (f.before j (below e l)) ∙ g.seen))
  ]
]
  where
    h : i ≡ j → c ≡ d
    h e = f.class ∙ ap (λ (k : ℕ). class_of (x k)) e ∙ sym g.class

    below : (i ≡ j → ⊥) → (i < j → ⊥) → j < i
    below a b = omega arith

pub first_scan : (x : ℕ → Float) (n i c : ℕ) → First x n i c → scan x n ≡ bad_at i c
first_scan x n i c f = go (scan x n) refl
  where
    go : (b : Option Bad) → scan x n ≡ b → scan x n ≡ bad_at i c
    go (Some bad) e = e ∙ first_once x n bad.index bad.class i c (scan_first x n bad.index bad.class e) f
    go None e = absurd (true≢false (sym (scan_none x n e i f.within) ∙ f.seen))

-- ---- two scans of the same numbers

pub scan_same : (x y : ℕ → Float) (n : ℕ) → ((k : ℕ) → k < n → x k ≡ y k) → scan x n ≡ scan y n
scan_same x y n h = go (scan y n) refl
  where
    earlier : {k i : ℕ} → k < i → i < n → k < n
    earlier a b = omega arith

    go : (b : Option Bad) → scan y n ≡ b → scan x n ≡ scan y n
    go (Some bad) e =
        let f = scan_first y n bad.index bad.class e in
        first_scan x n bad.index bad.class (record {
          within = f.within;
          seen = ap is_finite (h bad.index f.within) ∙ f.seen;
          class = f.class ∙ ap class_of (sym (h bad.index f.within));
          before = λ k l. ap is_finite (h k (earlier l f.within)) ∙ f.before k l;
        }) ∙ sym e
    go None e = scan_fine x n (λ k l. ap is_finite (h k l) ∙ scan_none y n e k l) ∙ sym e

-- ---- one list behind another

-- what was found, counted behind so many other numbers
abbrev pub behind : ℕ → Option Bad → Option Bad
behind before (Some bad) = bad_at (before + bad.index) bad.class
behind before None = None

pub scan_both : (d e : Vec) → first_bad (d ++ e) ≡ option_or (first_bad d) (behind (length d) (first_bad e))
scan_both d e = go (first_bad d) refl (first_bad e) refl
  where
    long : length (d ++ e) ≡ length d + length e
    long = length-append d e

    front : (k : ℕ) → k < length d → at (d ++ e) k ≡ at d k
    front k l = get_or-append d e nan k l

    back : (k : ℕ) → at (d ++ e) (length d + k) ≡ at e k
    back k = get_or-append-add d e k nan

    go : (a : Option Bad) → first_bad d ≡ a → (b : Option Bad) → first_bad e ≡ b → first_bad (d ++ e) ≡ option_or a (behind (length d) b)
    go (Some bad) p b q =
        let f = scan_first (at d) (length d) bad.index bad.class p in
        first_scan (at (d ++ e)) (length (d ++ e)) bad.index bad.class (record {
          within = omega (arith, long, f.within);
          seen = ap is_finite (front bad.index f.within) ∙ f.seen;
          class = f.class ∙ ap class_of (sym (front bad.index f.within));
          before = λ k l. ap is_finite (front k (omega (arith, f.within))) ∙ f.before k l;
        })
    go None p (Some bad) q =
        let f = scan_first (at e) (length e) bad.index bad.class q in
        first_scan (at (d ++ e)) (length (d ++ e)) (length d + bad.index) bad.class (record {
          within = omega (arith, long, f.within);
          seen = ap is_finite (back bad.index) ∙ f.seen;
          class = f.class ∙ ap class_of (sym (back bad.index));
          before = λ k l. earlier k l f.before;
        })
      where
        earlier : (k : ℕ) → k < length d + bad.index → ((j : ℕ) → j < bad.index → is_finite (at e j) ≡ true) → is_finite (at (d ++ e) k) ≡ true
        earlier k l f = elim (dec_lt k (length d)) [
          | yes a ↦ ap is_finite (front k a) ∙ first_bad_none d p k a
          | no a ↦
              let h : length d + (k - length d) ≡ k = omega arith in
              ap (λ (j : ℕ). is_finite (at (d ++ e) j)) (sym h) ∙ ap is_finite (back (k - length d)) ∙ f (k - length d) (omega arith)
        ]
    go None p None q = first_bad_fine (d ++ e) (λ k l. elim (dec_lt k (length d)) [
      | yes a ↦ ap is_finite (front k a) ∙ first_bad_none d p k a
      | no a ↦
          let h : length d + (k - length d) ≡ k = omega arith in
          ap (λ (j : ℕ). is_finite (at (d ++ e) j)) (sym h) ∙ ap is_finite (back (k - length d)) ∙ first_bad_none e q (k - length d) (omega (arith, long))
    ])

-- ---- a matrix, row by row, without making the list

-- number k, counted row by row, of the worked-on matrix v
abbrev pub cell_at : ℕ → ℕ → Vec → ℕ → Float
cell_at rows cols v k = at2 v rows (place_of cols k).i (place_of cols k).j

unfoldable pub first_bad_of : ℕ → ℕ → Vec → Option Bad
first_bad_of rows cols v = scan (cell_at rows cols v) (rows * cols)

pub by_rows_lem : (cols : ℕ) (v : Vec) → first_bad_of (length v / cols) cols v ≡ first_bad (by_rows cols v)
unfolding first_bad_of by_rows place_of
by_rows_lem cols v =
    let n : ℕ = length v / cols * cols in
    let f : ℕ → Float = cell_at (length v / cols) cols v in
    scan_same f (at (table f n)) n (λ k l. sym (at_table f n k l)) ∙ ap (scan (at (table f n))) (sym (length_table f n))

-- ---- room behind so many numbers

abbrev pub Room : ℕ → Option Bad → Type 0
Room before (Some bad) = before + bad.index < 2 ^ 64
Room before None = Unit

pub room_of_lem : (before n : ℕ) (x : ℕ → Float) → before + n ≤ 2 ^ 64 → Room before (scan x n)
room_of_lem before n x h = go (scan x n) refl
  where
    go : (b : Option Bad) → scan x n ≡ b → Room before b
    go (Some bad) e = omega (arith, (scan_first x n bad.index bad.class e).within)
    go None e = tt

-- a mark answers 8 or 10
pub class_cases : (x : Float) → (class_of x ≡ 8) ⊎ (class_of x ≡ 10)
unfolding class_of
class_cases nan = inr refl
class_cases (inf s) = inl refl
class_cases (fin s m e) = inl refl

pub first_class : (x : ℕ → Float) (n i c : ℕ) → First x n i c → (c ≡ 8) ⊎ (c ≡ 10)
first_class x n i c f = subst (λ (k : ℕ). (k ≡ 8) ⊎ (k ≡ 10)) (sym f.class) (class_cases (x i))

pub scan_class : (x : ℕ → Float) (n i c : ℕ) → scan x n ≡ bad_at i c → (c ≡ 8) ⊎ (c ≡ 10)
scan_class x n i c e = first_class x n i c (scan_first x n i c e)

pub fine_no_first : (d : Vec) (i c : ℕ) → Finite d → First (at d) (length d) i c → ⊥
fine_no_first d i c h f = true≢false (sym (h i f.within) ∙ f.seen)

-- ---- the scan below the diagonal sees nothing above it

-- number k of the matrix a, as it is read
abbrev pub lower_at : ℕ → Vec → ℕ → Float
lower_at n a k = lower_of (place_of n k) (at a k)

pub lower_is : (n : ℕ) (a : Vec) → scan (lower_at n a) (length a) ≡ first_bad_lower n a
unfolding first_bad_lower lower_of place_of
lower_is n a = refl

lower_number : (n : ℕ) (a b : Vec) → ((i j : ℕ) → j ≤ i → i < n → entry a n i j ≡ entry b n i j) → (k : ℕ) → k < n * n → lower_at n a k ≡ lower_at n b k
unfolding lower_of place_of
lower_number zero a b h k l = absurd (omega arith)
lower_number (suc m) a b h k l = go (leb (k % suc m) (k / suc m)) refl
  where
    go : (t : Bool) → leb (k % suc m) (k / suc m) ≡ t → lower_at (suc m) a k ≡ lower_at (suc m) b k
    go true e =
        let r : k / suc m < suc m = (div-lt_iff_lt-mul {k = suc m} (omega arith)).1 l in
        let s : entry a (suc m) (k / suc m) (k % suc m) ≡ entry b (suc m) (k / suc m) (k % suc m) = h (k / suc m) (k % suc m) (leb-true _ _ e) r in
        rw e (rw (div-add-mod' k (suc m)) at s)
    go false e = rw e

pub lower_same : (n : ℕ) (a b : Vec) → length a ≡ n * n → length b ≡ n * n
    → ((i j : ℕ) → j ≤ i → i < n → entry a n i j ≡ entry b n i j) → first_bad_lower n a ≡ first_bad_lower n b
lower_same n a b la lb h =
    sym (lower_is n a) ∙ rw (la, lb) (scan_same (lower_at n a) (lower_at n b) (n * n) (lower_number n a b h)) ∙ lower_is n b
