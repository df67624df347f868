-- Two pairs of four different columns side by side, two rows of pairs that are gone through together, and rows two by two. Laws only.
use mathlib.Core.Path.{◌≡◌, sym, ap, ◌∙◌}
use mathlib.Core.Bool.{Bool, true, false}
use Prim.Native.Nat.{ℕ, ◌+◌, ◌-◌, ◌≤◌, ◌<◌}
use native.Mathlib.Nat.{le_antisymm, eq-or-lt_of_le}
use mathlib.Core.Logic.{⊎_elim}
use native.Mathlib.Omega.{arith}
use Rattle.grid.specs.Loop.{upto}
use Rattle.grid.specs.LoopLaws.{upto_more, start, more, next}
use Rattle.grid.specs.Real.{Vec}
use Rattle.svd_jacobi_svd_tall.specs.declared.sweep.Sums.{Sums}
use Rattle.svd_jacobi_svd_tall.specs.Sweep.{u_at, gram, skipped, rotation_of, pair_done, pairs_of}
use Rattle.svd_jacobi_svd_tall.specs.Turned.{turned, pair_by}
use Rattle.svd_jacobi_svd_tall.specs.PairsApart.{upto_past, Apart, both_sums, apart}

-- ---- two pairs of four different columns, by the sums of both

pub different : (cols p q e f : ℕ) → p < e → e < f → f < q → q < cols → Apart cols p q e f
different cols p q e f a b c d = record {
  p_in = omega arith;
  q_in = d;
  e_in = omega arith;
  f_in = omega arith;
  p_e = λ z. omega arith;
  p_f = λ z. omega arith;
  q_e = λ z. omega arith;
  q_f = λ z. omega arith;
}

by_skipped : (rows cols p q : ℕ) (g : Sums) (x : Bool × Vec) → skipped g ≡ true → x ≡ pair_by rows cols p q g x
unfolding pair_by
by_skipped rows cols p q g x e = rw e

by_turned : (rows cols p q : ℕ) (g : Sums) (x : Bool × Vec) → skipped g ≡ false → (true, turned rows cols p q (rotation_of g) x.1) ≡ pair_by rows cols p q g x
unfolding pair_by
by_turned rows cols p q g x e = rw e

module _ (rows cols p q e f : ℕ) (x : Bool × Vec) (g h : Sums) (d : Apart cols p q e f) (first : g ≡ gram (u_at rows p) (u_at rows q) rows x.1) (second : h ≡ gram (u_at rows e) (u_at rows f) rows x.1) where
  both : pair_by rows cols e f h (pair_by rows cols p q g x) ≡ pair_done rows cols e f (pair_done rows cols p q x)
  both = rw (first, second) (both_sums rows cols p q e f d x)

  pub first_skipped : skipped g ≡ true → pair_by rows cols e f h x ≡ pair_done rows cols e f (pair_done rows cols p q x)
  first_skipped a = ap (pair_by rows cols e f h) (by_skipped rows cols p q g x a) ∙ both

  pub second_skipped : skipped g ≡ false → skipped h ≡ true → (true, turned rows cols p q (rotation_of g) x.1) ≡ pair_done rows cols e f (pair_done rows cols p q x)
  second_skipped a b = by_turned rows cols p q g x a ∙ by_skipped rows cols e f h (pair_by rows cols p q g x) b ∙ both

  pub both_turned : skipped g ≡ false → skipped h ≡ false
      → (true, turned rows cols e f (rotation_of h) (turned rows cols p q (rotation_of g) x.1)) ≡ pair_done rows cols e f (pair_done rows cols p q x)
  both_turned a b =
      ap (λ (y : Bool × Vec). (true, turned rows cols e f (rotation_of h) y.1)) (by_turned rows cols p q g x a)
      ∙ by_turned rows cols e f h (pair_by rows cols p q g x) b
      ∙ both

-- ---- two rows gone through together, the second a step behind

module _ (rows cols p : ℕ) where
  abbrev first : ℕ → Bool × Vec → Bool × Vec
  first = pair_done rows cols p

  abbrev second : ℕ → Bool × Vec → Bool × Vec
  second = pair_done rows cols (p + 1)

  -- column p with those before q, and column p + 1 with those before q - 1
  abbrev pub both_to : ℕ → Bool × Vec → Bool × Vec
  both_to q x = upto second (p + 2) (q - 1) (upto first (p + 1) q x)

  -- the second has no pair yet
  pub begun : (x : Bool × Vec) {s : Bool × Vec} → s ≡ first (p + 2) (first (p + 1) x) → s ≡ both_to (p + 3) x
  begun x {s} e =
      let one : first (p + 1) x ≡ upto first (p + 1) (p + 2) x =
      more first (p + 1) (p + 1) x (omega arith) (start first (p + 1) x) ∙ ap (λ (k : ℕ). upto first (p + 1) k x) (omega arith) in
      let two : s ≡ upto first (p + 1) (p + 3) x =
      e ∙ more first (p + 1) (p + 2) x (omega arith) one ∙ ap (λ (k : ℕ). upto first (p + 1) k x) (omega arith) in
      two
      ∙ start second (p + 2) (upto first (p + 1) (p + 3) x)
      ∙ ap (λ (k : ℕ). upto second (p + 2) k (upto first (p + 1) (p + 3) x)) (omega arith)

  -- the pair of columns p and q passes all of the second row before
  pub stepped : (q : ℕ) (x : Bool × Vec) {s t : Bool × Vec} → p + 3 ≤ q → q < cols → s ≡ both_to q x → t ≡ second (q - 1) (first q s) → t ≡ both_to (q + 1) x
  stepped q x l m e g =
      g
      ∙ ap (λ (s : Bool × Vec). second (q - 1) (first q s)) e
      ∙ ap (second (q - 1))
      (upto_past (first q) second (p + 2) (q - 1) (upto first (p + 1) q x) (λ i s a b. apart rows cols p q (p + 1) i (different cols p q (p + 1) i (omega arith) (omega arith) (omega arith) m) s))
      ∙ ap (λ (y : Bool × Vec). second (q - 1) (upto second (p + 2) (q - 1) y)) (sym (upto_more first (p + 1) q x (omega arith)))
      ∙ sym (upto_more second (p + 2) (q - 1) (upto first (p + 1) (q + 1) x) (omega arith))
      ∙ ap (λ (k : ℕ). upto second (p + 2) k (upto first (p + 1) (q + 1) x)) (omega arith)

  pub ended : {q : ℕ} (x : Bool × Vec) {s : Bool × Vec} → q ≤ cols → cols ≤ q → s ≡ both_to q x → s ≡ upto second (p + 2) (cols - 1) (pairs_of rows cols p x)
  unfolding pairs_of
  ended x l m e = e ∙ ap (λ (k : ℕ). both_to k x) (le_antisymm l m)

  -- its last pair
  pub last_pair : (x : Bool × Vec) {s t : Bool × Vec} → p + 2 < cols → s ≡ upto second (p + 2) (cols - 1) (pairs_of rows cols p x) → t ≡ second (cols - 1) s
      → t ≡ pairs_of rows cols (p + 1) (pairs_of rows cols p x)
  unfolding pairs_of
  last_pair x l e g =
      let y : Bool × Vec = upto first (p + 1) cols x in
      next second (p + 2) (cols - 1) y (omega arith) e g
      ∙ ap (λ (k : ℕ). upto second (p + 2) k y) (omega arith)
      ∙ ap (λ (k : ℕ). upto second k cols y) (omega arith)

  -- of the last two columns there is one pair
  pub last_rows : (x : Bool × Vec) → p + 2 ≡ cols → first (p + 1) x ≡ pairs_of rows cols (p + 1) (pairs_of rows cols p x)
  unfolding pairs_of
  last_rows x e =
      let y : Bool × Vec = upto first (p + 1) cols x in
      more first (p + 1) (p + 1) x (omega arith) (start first (p + 1) x)
      ∙ ap (λ (k : ℕ). upto first (p + 1) k x) (omega arith)
      ∙ start second (p + 1 + 1) y
      ∙ ap (λ (k : ℕ). upto second (p + 1 + 1) k y) (omega arith)

-- ---- all rows

pub two_more : (rows cols p : ℕ) (x : Bool × Vec) {s t : Bool × Vec} → s ≡ upto (pairs_of rows cols) 0 p x → t ≡ pairs_of rows cols (p + 1) (pairs_of rows cols p s) → t ≡ upto (pairs_of rows cols) 0 (p + 2) x
two_more rows cols p x e g =
    let row : ℕ → Bool × Vec → Bool × Vec = pairs_of rows cols in
    next row 0 (p + 1) x (omega arith) (more row 0 p x (omega arith) e) g
    ∙ ap (λ (k : ℕ). upto row 0 k x) (omega arith)

-- a last column by itself has no pair
pub all_rows : (rows cols p : ℕ) (x : Bool × Vec) {s : Bool × Vec} → p ≤ cols → cols ≤ p + 1 → s ≡ upto (pairs_of rows cols) 0 p x → s ≡ upto (pairs_of rows cols) 0 cols x
unfolding pairs_of
all_rows rows cols p x {s} l m e = ⊎_elim
    (λ z. e ∙ ap (λ (k : ℕ). upto row 0 k x) z)
    (λ z.
    next row 0 p x (omega arith) e (start (pair_done rows cols p) (p + 1) s ∙ ap (λ (k : ℕ). upto (pair_done rows cols p) (p + 1) k s) (omega arith))
    ∙ ap (λ (k : ℕ). upto row 0 k x) (omega arith))
    (eq-or-lt_of_le {n = p} {m = cols} l)
  where
    row : ℕ → Bool × Vec → Bool × Vec
    row = pairs_of rows cols
