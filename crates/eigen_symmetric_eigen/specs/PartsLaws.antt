-- What is lent to the run in parts, and what is put together from them afterwards. Laws only.
-- `outward` is what a function of the code does on the way; no public promise cites it.
use Rattle.std.specs.Prelude.{◌≡◌, refl, Bool, true, false, cond, ◌++◌, ℕ, ◌+◌, ◌*◌, ◌-◌, ◌≤◌, length, take, drop}
use Rattle.std.proofs.Common.{sym, ap, ◌∙◌, append-nil, arith, le-ltb, le-leb, eq-eqb, length-append, length-drop, drop_of_length-le, take_all, take_at, drop_at, length-take-le}
use borrow.Rule.Slice.PartMut.{mid_of, put_mid, same_len_mid}
use Rattle.std.proofs.lemmas.List.{length-replicate, replicate-append-replicate}
use Rattle.grid.specs.Real.{Vec, zero64, zeros}
use Rattle.leaves.specs.Scan.{by_rows}
use Rattle.answers.specs.Answers.{passed}
use Rattle.answers.specs.declared.Answer.{Answer}
use Rattle.eigen_symmetric_eigen.specs.ResultLaws.{laid}
use Rattle.answers.specs.Checks.{edition_good, limit_good, lengths}
use Rattle.answers.proofs.EditionLaws.{edition_lengths}
use Rattle.eigen_symmetric_eigen.specs.SymmetricEigen.{decomposed, given, cleared, eigen_entered, eigen}

-- after the run: where it is done the vectors stand row by row
unfoldable pub outward : ℕ → Answer × Vec × Vec × Vec → Answer × Vec × Vec × Vec
outward n (x, v, d, e) = cond (passed x) (x, by_rows n v, d, e) (x, v, d, e)

-- ---- a call that passes its checks

pub checks_pass : (n limit edition : ℕ) (a work result : Vec) → n ≤ 256 → 1 ≤ limit → limit ≤ 60 → edition_good edition ≡ true → length a ≡ n * n → length work ≡ n → length result ≡ n + n * n
    → eigen n limit edition a work result ≡ eigen_entered n limit edition a
unfolding eigen limit_good lengths
checks_pass n limit edition a work result small least most good square works room =
    rw (edition_lengths edition (length a) (n * n) (length work) n (length result) (n + n * n) good)
    (simp (le-ltb 256 n small, le-leb 1 limit least, le-leb limit 60 most, eq-eqb (length a) (n * n) square, eq-eqb (length work) n works, eq-eqb (length result) (n + n * n) room))

-- ---- the parts of a list of zeros

pub zeros_take : (n k : ℕ) → n ≤ k → take n (zeros k) ≡ zeros n
zeros_take n k h =
    let e : n + (k - n) ≡ k = omega arith in
    ap (λ (j : ℕ). take n (zeros j)) (sym e)
    ∙ ap (take n) (sym (replicate-append-replicate n (k - n) zero64))
    ∙ take_at (zeros n) (zeros (k - n)) n (length-replicate n zero64)

pub zeros_drop : (n k : ℕ) → drop n (zeros (n + k)) ≡ zeros k
zeros_drop n k = ap (drop n) (sym (replicate-append-replicate n k zero64)) ∙ drop_at (zeros n) (zeros k) n (length-replicate n zero64)

-- ---- the part of the result behind the values

pub behind : (n : ℕ) (xs : Vec) → n ≤ length xs → mid_of n (length xs - n) xs ≡ drop n xs
behind n xs h = take_all (length xs - n) (drop n xs) (omega (arith, length-drop n xs))

pub behind_put : (n : ℕ) (xs ys : Vec) → n ≤ length xs → drop n (put_mid n (length xs - n) xs ys) ≡ ys
behind_put n xs ys h =
    drop_at (take n xs) (ys ++ drop (length xs - n) (drop n xs)) n (length-take-le n xs h)
    ∙ ap (◌++◌ ys) (drop_of_length-le (drop n xs) {i = length xs - n} (omega (arith, length-drop n xs)))
    ∙ append-nil ys

-- ---- the outcome, from what the run left

-- of (answer, v by rows, d, e)
abbrev from_rows : ℕ → Answer × Vec × Vec × Vec → Answer × Vec × Vec
from_rows n z = cond (passed z.0) (z.0, zeros n, z.2 ++ z.1) (cleared n z.0)

rows_given : (n : ℕ) (y : Answer × Vec × Vec × Vec) → from_rows n (outward n y) ≡ given n y
unfolding outward given
rows_given n y = go (passed y.0) refl
  where
    go : (b : Bool) → passed y.0 ≡ b
        → from_rows n (cond (passed y.0) (y.0, by_rows n y.1, y.2, y.3) y) ≡ cond (passed y.0) (y.0, zeros n, y.2 ++ by_rows n y.1) (cleared n y.0)
    go true t = simp t
    go false t = simp t

pub put_together : (n : ℕ) (y : Answer × Vec × Vec × Vec) (x : Answer) (v d e work result : Vec)
    → length d ≡ n → length work ≡ n → length result ≡ n + n * n → drop n result ≡ v
    → ◌≡◌ {A = Answer × Vec × Vec × Vec} (x, v, d, e) (outward n y) → laid x d work result ≡ given n y
unfolding laid
put_together n y x v d e work result p q r g h = rw (p, q, r, g) (ap (from_rows n) h ∙ rows_given n y)

-- R is the result lent to the run, n of its numbers before the part that becomes v; d is the front of a list of 256 zeros; e is work
module _ (n : ℕ) (R W : Vec) (small : n ≤ 256) (w : W ≡ zeros n) (r : R ≡ zeros (n + n * n)) where
  pub result_length : length R ≡ n + n * n
  result_length = ap length r ∙ length-replicate (n + n * n) zero64

  pub front_fits : n ≤ length R
  front_fits = omega (arith, result_length)

  v_lent : mid_of n (length R - n) R ≡ zeros (n * n)
  v_lent = behind n R front_fits ∙ ap (drop n) r ∙ zeros_drop n (n * n)

  pub v_length : length (mid_of n (length R - n) R) ≡ n * n
  v_length = ap length v_lent ∙ length-replicate (n * n) zero64

  pub d_length : length (take n (zeros 256)) ≡ n
  d_length = ap length (zeros_take n 256 small) ∙ length-replicate n zero64

  pub e_length : length W ≡ n
  e_length = ap length w ∙ length-replicate n zero64

  -- d once it is back in the array, and lent again
  pub d_fits : (d : Vec) → length d ≡ length (take n (zeros 256)) → n ≤ length (d ++ drop n (zeros 256))
  d_fits d h = omega (arith, length-append d (drop n (zeros 256)), h ∙ d_length)

  pub d_again : (d : Vec) → length d ≡ length (take n (zeros 256)) → length (take n (d ++ drop n (zeros 256))) ≡ n
  d_again d h = length-take-le n (d ++ drop n (zeros 256)) (d_fits d h)

  pub v_back : (v : Vec) → length v ≡ length (mid_of n (length R - n) R) → length (put_mid n (length R - n) R v) ≡ n + n * n
  v_back v h = same_len_mid n (length R - n) R v h ∙ result_length

  pub d_front : (v d : Vec) → length v ≡ length (mid_of n (length R - n) R) → length d ≡ length (take n (zeros 256))
      → length (take n (d ++ drop n (zeros 256))) ≤ length (put_mid n (length R - n) R v)
  d_front v d lv ld = omega (arith, d_again d ld, v_back v lv)

  pub run_whole : (limit edition : ℕ) (a v d e : Vec) (x : Answer) (t : Answer × Vec × Vec)
      → length v ≡ length (mid_of n (length R - n) R) → length d ≡ length (take n (zeros 256)) → length e ≡ length W
      → ◌≡◌ {A = Answer × Vec × Vec × Vec} (x, v, d, e) (outward n (decomposed n limit edition a (take n (zeros 256), W)))
      → t ≡ laid x (take n (d ++ drop n (zeros 256))) e (put_mid n (length R - n) R v)
      → t ≡ given n (decomposed n limit edition a (zeros n, zeros n))
  run_whole limit edition a v d e x t lv ld le s g =
      let y : Answer × Vec × Vec × Vec = decomposed n limit edition a (zeros n, zeros n) in
      let k : length d ≡ n = ld ∙ d_length in
      g
      ∙ ap (λ (z : Vec). laid x z e (put_mid n (length R - n) R v)) (take_at d (drop n (zeros 256)) n k)
      ∙ put_together n y x v d e e (put_mid n (length R - n) R v) k (le ∙ e_length) (v_back v lv) (behind_put n R v front_fits) (rw (zeros_take n 256 small, w) at s)
