-- The scans find the same in two vectors that are alike: an infinity and a NaN stay what they are under a power of two, and where they were. Laws only.
use Rattle.std.specs.Prelude.{◌≡◌, refl, Bool, true, false, cond, not, ◌++◌, ℕ, ◌+◌, ◌*◌, ◌/◌, ◌≤◌, ◌<◌, ltb, ℤ, pos, Float, length, take, drop, None}
use Rattle.std.proofs.Common.{sym, ap, ◌∙◌, arith, ltb-true, ltb-false, length-take, length-drop, get_or-take, get_or-drop}
use Rattle.std.specs.Float.{nan, inf, fin}
use Rattle.std.specs.Option.{option_or}
use Rattle.std.proofs.Math.ListN.{get_or-eq_default}
use Rattle.grid.specs.Loop.{first}
use Rattle.grid.specs.Real.{Vec, at}
use Rattle.grid.specs.TableLaws.{length_table}
use Rattle.leaves.specs.Leaf.{is_finite}
use Rattle.leaves.specs.Scan.{class_of, scan, first_bad, place_of, by_rows, bad_at}
use Rattle.leaves.specs.ScanLaws.{first_same, behind, scan_both, first_bad_of, by_rows_lem}
use Rattle.svd_gain_theorems.specs.Scale.{scale}
use Rattle.svd_gain_theorems.specs.Alike.{Alike}
use Rattle.svd_gain_theorems.specs.Compare.{finite_scaled}

class_scaled : (k : ℤ) (x : Float) → class_of (scale k x) ≡ class_of x
unfolding class_of scale
class_scaled k nan = refl
class_scaled k (inf s) = refl
class_scaled k (fin s m e) = refl

-- as many numbers, and at each index both finite, or both not and of one class
pub record Match (w v : Vec) : Type 0 where
  pub long : length v ≡ length w
  pub finite : (i : ℕ) → is_finite (at v i) ≡ is_finite (at w i)
  pub class : (i : ℕ) → class_of (at v i) ≡ class_of (at w i)

pub match : (κ : ℕ → ℕ) (w v : Vec) → Alike κ w v → Match w v
match κ w v h =
    record {
      long = h.long;
      finite = λ i. ap is_finite (h.each i) ∙ finite_scaled (pos (κ i)) (at w i);
      class = λ i. ap class_of (h.each i) ∙ class_scaled (pos (κ i)) (at w i);
    }

pub match_take : (n : ℕ) (w v : Vec) → Match w v → Match (take n w) (take n v)
match_take n w v h =
    record { long = rw (length-take n v, length-take n w, h.long); finite = λ i. each is_finite i (h.finite i); class = λ i. each class_of i (h.class i) }
  where
    each : {A : Type 0} (f : Float → A) (i : ℕ) → f (at v i) ≡ f (at w i) → f (at (take n v) i) ≡ f (at (take n w) i)
    each f i e = go (ltb i n) refl
      where
        short : (u : Vec) → n ≤ i → length (take n u) ≤ i
        short u l = omega (arith, length-take n u)

        go : (b : Bool) → ltb i n ≡ b → f (at (take n v) i) ≡ f (at (take n w) i)
        go true g =
            let l : i < n = ltb-true i n g in
            rw (get_or-take n v i nan l, get_or-take n w i nan l) e
        go false g =
            let l : n ≤ i = ltb-false i n g in
            rw (get_or-eq_default (take n v) nan (short v l), get_or-eq_default (take n w) nan (short w l))

pub match_drop : (n : ℕ) (w v : Vec) → Match w v → Match (drop n w) (drop n v)
match_drop n w v h =
    record {
      long = rw (length-drop n v, length-drop n w, h.long);
      finite = λ i. rw (get_or-drop n v i nan, get_or-drop n w i nan) (h.finite (n + i));
      class = λ i. rw (get_or-drop n v i nan, get_or-drop n w i nan) (h.class (n + i));
    }

pub scan_match : (x y : ℕ → Float) (n : ℕ) → ((k : ℕ) → is_finite (y k) ≡ is_finite (x k)) → ((k : ℕ) → class_of (y k) ≡ class_of (x k)) → scan y n ≡ scan x n
unfolding scan
scan_match x y n f c =
    let r : ℕ = first (λ k. not (is_finite (x k))) 0 n in
    ap (λ (k : ℕ). cond (ltb k n) (bad_at k (class_of (y k))) None) (first_same (λ k. not (is_finite (y k))) (λ k. not (is_finite (x k))) n (λ k l. ap not (f k)))
    ∙ ap (λ (t : ℕ). cond (ltb r n) (bad_at r t) None) (c r)

pub bad_same : (w v : Vec) → Match w v → first_bad v ≡ first_bad w
bad_same w v h = ap (scan (at v)) h.long ∙ scan_match (at w) (at v) (length w) h.finite h.class

-- a matrix row by row
rows_same : (cols : ℕ) (w v : Vec) → Match w v → first_bad (by_rows cols v) ≡ first_bad (by_rows cols w)
unfolding first_bad_of
rows_same cols w v h = sym (by_rows_lem cols v) ∙ ap (λ (n : ℕ). first_bad_of (n / cols) cols v) h.long ∙ cells ∙ by_rows_lem cols w
  where
    rows : ℕ
    rows = length w / cols

    cells : first_bad_of rows cols v ≡ first_bad_of rows cols w
    cells = scan_match _ _ (rows * cols) (λ k. h.finite ((place_of cols k).j * rows + (place_of cols k).i)) (λ k. h.class ((place_of cols k).j * rows + (place_of cols k).i))

rows_long : (cols : ℕ) (w v : Vec) → Match w v → length (by_rows cols v) ≡ length (by_rows cols w)
unfolding by_rows
rows_long cols w v h = length_table _ (length v / cols * cols) ∙ ap (λ (n : ℕ). n / cols * cols) h.long ∙ sym (length_table _ (length w / cols * cols))

-- one list behind another
pub both_same : (d e d' e' : Vec) → length d' ≡ length d → first_bad d' ≡ first_bad d → first_bad e' ≡ first_bad e → first_bad (d' ++ e') ≡ first_bad (d ++ e)
both_same d e d' e' l p q =
    scan_both d' e' ∙ (λ i. option_or (p i) (behind (l i) (q i))) ∙ sym (scan_both d e)

-- two matrices, one behind the other
pub pair_same : (cols : ℕ) (d e d' e' : Vec) → Match d d' → Match e e' → first_bad (by_rows cols d' ++ by_rows cols e') ≡ first_bad (by_rows cols d ++ by_rows cols e)
pair_same cols d e d' e' p q =
    both_same (by_rows cols d) (by_rows cols e) (by_rows cols d') (by_rows cols e') (rows_long cols d d' p) (rows_same cols d d' p) (rows_same cols e e' q)
