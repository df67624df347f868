-- Taking out vectors one after the other, each walk with the dot of the next. Laws only.
-- `passed` is what the code does on the way; no public promise cites it.
use Rattle.std.specs.Prelude.{◌≡◌, ℕ, ◌+◌, ◌-◌, ◌<◌}
use Rattle.std.proofs.Common.{sym, ◌∙◌, arith}
use Rattle.std.proofs.Math.Path.{ap}
use Rattle.std.specs.Float.Ieee.{Float, neg}
use Rattle.grid.specs.Loop.{upto}
use Rattle.grid.specs.LoopLaws.{upto_none, next}
use Rattle.grid.specs.Real.{Vec}
use Rattle.gram_schmidt.specs.Gram.{dot}
use Rattle.matvec.specs.Matvec.{row_of, added, without}
use Rattle.matvec.specs.Rows.{added_dot}

-- w against the vectors before step j, and against v
unfoldable pub against_all : ℕ → ℕ → Vec → Vec → Vec → Vec
against_all n j q v w = without n v (upto (λ i. without n (row_of n i q)) 0 j w)

-- ---- w without the first m vectors

abbrev pub less : ℕ → Vec → ℕ → Vec → Vec
less n q m w = upto (λ i. without n (row_of n i q)) 0 m w

-- and its dot with the next one
unfoldable pub passed : ℕ → ℕ → Vec → Vec → Float × Vec
passed n m q w = (dot n (less n q m w) (row_of n m q), less n q m w)

module _ (n : ℕ) (q w : Vec) where
  pub passed_none : {p : Float} → p ≡ dot n w (row_of n 0 q) → ◌≡◌ {A = Float × Vec} (p, w) (passed n 0 q w)
  unfolding passed
  passed_none e = rw (upto_none (λ i. without n (row_of n i q)) 0 w) (ap (λ (y : Float). (y, w)) e)

  -- one more: u is the next vector, t the one behind it
  pub passed_more : (m : ℕ) (p r : Float) (x y u t : Vec) → u ≡ row_of n m q → t ≡ row_of n (m + 1) q → ◌≡◌ {A = Float × Vec} (p, x) (passed n m q w) → ◌≡◌ {A = Float × Vec} (r, y) (added_dot n (neg p) u t x) → ◌≡◌ {A = Float × Vec} (r, y) (passed n (m + 1) q w)
  unfolding passed added_dot without
  passed_more m p r x y u t a b e g = out
    where
      is : x ≡ less n q m w
      is = ap (λ (z : Float × Vec). z.1) e

      along : p ≡ dot n x (row_of n m q)
      along = ap (λ (z : Float × Vec). z.0) e ∙ ap (λ (z : Vec). dot n z (row_of n m q)) (sym is)

      now : added n (neg p) u x ≡ less n q (m + 1) w
      now = next (λ i. without n (row_of n i q)) 0 m w (omega arith) is (rw (a, along))

      out : ◌≡◌ {A = Float × Vec} (r, y) (dot n (less n q (m + 1) w) (row_of n (m + 1) q), less n q (m + 1) w)
      out = g ∙ (λ k. (dot n (now k) (b k), now k))

  -- the last of them, and v
  pub against_whole : (j : ℕ) (p r : Float) (v x y z u : Vec) → 0 < j → u ≡ row_of n (j - 1) q → ◌≡◌ {A = Float × Vec} (p, x) (passed n (j - 1) q w)
      → ◌≡◌ {A = Float × Vec} (r, y) (added_dot n (neg p) u v x) → z ≡ added n (neg r) v y → z ≡ against_all n j q v w
  unfolding passed added_dot without against_all
  against_whole j p r v x y z u l a e g h = h ∙ ap (λ (f : Float). added n (neg f) v y) along2 ∙ ap (without n v) all
    where
      is : x ≡ less n q (j - 1) w
      is = ap (λ (z : Float × Vec). z.1) e

      along : p ≡ dot n x (row_of n (j - 1) q)
      along = ap (λ (z : Float × Vec). z.0) e ∙ ap (λ (z : Vec). dot n z (row_of n (j - 1) q)) (sym is)

      last : j - 1 + 1 ≡ j
      last = omega arith

      all : y ≡ less n q j w
      all =
          ap (λ (z : Float × Vec). z.1) g
          ∙ next (λ i. without n (row_of n i q)) 0 (j - 1) w (omega arith) is (rw (a, along))
          ∙ ap (λ (k : ℕ). less n q k w) last

      along2 : r ≡ dot n y v
      along2 = ap (λ (z : Float × Vec). z.0) g ∙ ap (λ (z : Vec). dot n z v) (sym (ap (λ (z : Float × Vec). z.1) g))

pub against_none : (n j : ℕ) (q v w z : Vec) → j ≡ 0 → z ≡ without n v w → z ≡ against_all n j q v w
unfolding against_all
against_none n j q v w z e h = h ∙ ap (without n v) (sym (ap (λ (k : ℕ). less n q k w) e ∙ upto_none (λ i. without n (row_of n i q)) 0 w))
