-- What is known of the sizes where a result is made, and that every part stands within its array. Laws only.
use Rattle.std.specs.Prelude.{◌≡◌, refl, Bool, true, false, cond, List, ℕ, ◌+◌, ◌*◌, ◌≤◌, ◌<◌, ltb, leb, eqb, length}
use Rattle.std.proofs.Common.{sym, ap, mul_comm, arith, lt-ltb, le-ltb, ltb-true, ltb-false, leb-true, leb-false}
use Rattle.std.proofs.Math.Nat.{mul-one, mul-le-mul_right}
use Rattle.grid.specs.Real.{Vec}
use Rattle.grid.specs.CellLaws.{cell}
use Rattle.answers.specs.Answers.{least, present, decomposition_length}
use Rattle.answers.specs.AnswersLaws.{least_le, present_le, product_le}
use Rattle.svd_sort_svd_descending.specs.Rank.{Below}
use Rattle.svd_sort_svd_descending.specs.Result.{longest, work_length}
use Rattle.svd_sort_svd_descending.specs.OutLaws.{offset}

-- both dimensions are at most 256, and the two arrays have their lengths
pub record Checked (m n want_u want_vt : ℕ) (work result : Vec) : Type 0 where
  pub tall : m ≤ 256
  pub wide : n ≤ 256
  pub works : length work ≡ work_length m n
  pub results : length result ≡ decomposition_length m n want_u want_vt

-- the columns of a factor stand within w, in the places that o names, and its cells come to stand within the result
pub record Out (cols from rows to down across : ℕ) (w : Vec) (o : List ℕ) (res : Vec) : Type 0 where
  pub few : cols ≤ 256
  pub named : Below cols o
  pub some : 0 < cols → 0 < rows
  pub there : from + cols * rows ≤ length w
  pub room : (k i : ℕ) → k < cols → i < rows → to + k * across + i * down < length res

-- ---- the larger and the smaller

pub wide_longest : (m n : ℕ) → m < n → longest m n ≡ n
unfolding longest
wide_longest m n h = rw (lt-ltb m n h)

pub tall_longest : (m n : ℕ) → n ≤ m → longest m n ≡ m
unfolding longest
tall_longest m n h = rw (le-ltb m n h)

pub wide_least : (m n : ℕ) → m < n → least m n ≡ m
unfolding least
wide_least m n h = rw (lt-ltb m n h)

pub tall_least : (m n : ℕ) → n ≤ m → least m n ≡ n
unfolding least
tall_least m n h = rw (le-ltb m n h)

pub least_left : (m n : ℕ) → least m n ≤ m
unfolding least
least_left m n = go (ltb m n) refl
  where
    go : (b : Bool) → ltb m n ≡ b → cond b m n ≤ m
    go true e = omega arith
    go false e = ltb-false m n e

pub least_right : (m n : ℕ) → least m n ≤ n
unfolding least
least_right m n = go (ltb m n) refl
  where
    go : (b : Bool) → ltb m n ≡ b → cond b m n ≤ n
    go true e = omega (arith, ltb-true m n e)
    go false e = omega arith

pub longest_le : (m n k : ℕ) → m ≤ k → n ≤ k → longest m n ≤ k
unfolding longest
longest_le m n k p q = go (ltb m n)
  where
    go : (b : Bool) → cond b n m ≤ k
    go true = q
    go false = p

-- the parts of both arrays, by the numbers that the code has for r, L and the length of U
pub spaces : (m n want_u want_vt r l : ℕ) (work result : Vec) → Checked m n want_u want_vt work result → r ≡ least m n → l ≡ longest m n
    → (r ≤ 256) × (l * r + r * r + r ≡ length work) × (m * r ≤ 65536) × (present want_u (m * r) ≤ 65536)
unfolding work_length
spaces m n want_u want_vt r l work result c e g =
    let small : r ≤ 256 = rw e (least_le m n 256 c.tall c.wide) in
    (small, rw (e, g) (sym c.works), product_le m r c.tall small, present_le want_u (m * r) 65536 (product_le m r c.tall small))

-- ---- the parts that come out

-- none of the r columns or all of them, as the flag says
pub present_below : (flag r : ℕ) (o : List ℕ) → Below r o → Below (present flag r) o
unfolding present
present_below flag r o h = go (eqb flag 0)
  where
    go : (b : Bool) → Below (cond b 0 r) o
    go true k l = absurd (omega arith)
    go false k l = h k l

pub present_few : (flag r k : ℕ) → k < present flag r → (k < r) × ((count : ℕ) → present flag count ≡ count)
unfolding present
present_few flag r k = go (eqb flag 0)
  where
    go : (b : Bool) → k < cond b 0 r → (k < r) × ((count : ℕ) → cond b 0 count ≡ count)
    go true h = absurd (omega arith)
    go false h = (h, λ count. refl)

pub present_part : (flag r : ℕ) → present flag r ≤ r
unfolding present
present_part flag r = go (eqb flag 0)
  where
    go : (b : Bool) → cond b 0 r ≤ r
    go true = omega arith
    go false = omega arith

-- ---- the two factors: one of L rows, which stands first, and one of r

-- a factor of so many rows stands first, or second where t says so
pub record Side (m n : ℕ) (t : Bool) (rows : ℕ) : Type 0 where
  pub first : t ≡ false → longest m n ≡ rows
  pub second : t ≡ true → least m n ≡ rows

pub left_side : (m n : ℕ) → Side m n (ltb m n) m
left_side m n = record { first = λ e. tall_longest m n (ltb-false m n e); second = λ e. wide_least m n (ltb-true m n e) }

pub right_side : (m n : ℕ) → Side m n (leb n m) n
right_side m n = record { first = λ e. wide_longest m n (leb-false n m e); second = λ e. tall_least m n (leb-true n m e) }

-- where a factor begins, it has room before the values
pub factor_room : (m n : ℕ) (t : Bool) (rows : ℕ) → Side m n t rows
    → offset t (longest m n * least m n) + least m n * rows ≤ longest m n * least m n + least m n * least m n
factor_room m n true rows s = omega (arith, ap (◌*◌ (least m n)) (s.second refl))
factor_room m n false rows s = omega (arith, ap (◌*◌ (least m n)) (s.first refl), mul_comm (least m n) (longest m n))

-- ---- each of the three parts of a result has its room

module _ (m n want_u want_vt : ℕ) (w res : Vec) (o : List ℕ) (c : Checked m n want_u want_vt w res) (b : Below (least m n) o) where
  small : least m n ≤ 256
  small = least_le m n 256 c.tall c.wide

  -- the values are a factor of one row
  pub values_out_lem : Out (least m n) (longest m n * least m n + least m n * least m n) 1 0 1 1 w o res
  unfolding work_length decomposition_length
  values_out_lem =
      record {
        few = small;
        named = b;
        some = λ z. omega arith;
        there = omega (arith, c.works, mul-one (least m n));
        room = λ k i h l. omega (arith, c.results, mul-one k, mul-one i);
      }

  -- a factor stands within w
  there : (t : Bool) (rows want : ℕ) → Side m n t rows → offset t (longest m n * least m n) + present want (least m n) * rows ≤ length w
  unfolding work_length
  there t rows want s = omega (arith, mul-le-mul_right rows (present_part want (least m n)), factor_room m n t rows s, c.works)

  pub left_out : Out (present want_u (least m n)) (offset (ltb m n) (longest m n * least m n)) m (least m n) (least m n) 1 w o res
  unfolding decomposition_length
  left_out =
      record {
        few = omega (arith, present_part want_u (least m n), small);
        named = present_below want_u (least m n) o b;
        some = λ z. omega (arith, present_part want_u (least m n), least_left m n);
        there = there (ltb m n) m want_u (left_side m n);
        room = λ k i h l. (let f = present_few want_u (least m n) k h in
            omega (arith, c.results, mul-one k, cell m (least m n) i k l f.0, f.1 (m * least m n)));
      }

  pub right_out : Out (present want_vt (least m n)) (offset (leb n m) (longest m n * least m n)) n (least m n + present want_u (m * least m n)) 1 n w o res
  unfolding decomposition_length
  right_out =
      record {
        few = omega (arith, present_part want_vt (least m n), small);
        named = present_below want_vt (least m n) o b;
        some = λ z. omega (arith, present_part want_vt (least m n), least_right m n);
        there = there (leb n m) n want_vt (right_side m n);
        room = λ k i h l. (let f = present_few want_vt (least m n) k h in
            omega (arith, c.results, mul-one i, cell (least m n) n k i f.0 l, f.1 (least m n * n)));
      }
