-- **diagonal_not_negative**: N times the sum of a band's squares is at least the square of its sum. Laws only.
use Rattle.std.specs.Prelude.{◌≡◌, refl, Bool, true, false, cond, List, ltb, ℤ, negsuc, ◌+ℤ◌, ◌-ℤ◌, ◌*ℤ◌}
use Rattle.std.proofs.Math.Path.{ap}
use Rattle.std.proofs.Common.{sym, subst, ◌∙◌, add-one, mul-add, add-mul, mul_comm, mul-zero, suc-mul, mul-le-mul, arith, ltb-true, ltb-false, le-ltb}
use Prim.Native.Nat.{ℕ, zero, suc, ◌+◌, ◌*◌, ◌-◌, ◌≤◌, ◌<◌}
use Rattle.std.proofs.Math.Nat.{le_trans}
use Rattle.std.proofs.Math.IntN.{pos, nat_abs, sub_ℕ}
use Rattle.grid.specs.Loop.{upto}
use Rattle.grid.specs.LoopLaws.{upto_none, upto_more}
use Rattle.covariance.specs.MatrixEntries.{band, whole}
use Rattle.covariance.specs.SampleSums.{sample_at, total, products}

-- one turn more of a loop from 0
pub upto_suc : {S : Type 0} (f : ℕ → S → S) (k : ℕ) (s : S) → upto f 0 (suc k) s ≡ f k (upto f 0 k s)
upto_suc f k s = ap (λ (i : ℕ). upto f 0 i s) (sym (add-one k)) ∙ upto_more f 0 k s (omega arith)

-- ---- of magnitudes: (x 0 + .. + x (N - 1))² ≤ N · (x 0² + .. + x (N - 1)²)

two_products : (a b : ℕ) → 2 * (a * b) ≤ a * a + b * b
two_products a b = go (ltb a b) refl
  where
    ordered : (a d : ℕ) → 2 * (a * (a + d)) ≤ a * a + (a + d) * (a + d)
    ordered a d = omega (arith, mul-add a a d, mul-add (a + d) a d, add-mul a d a, add-mul a d d, mul_comm d a)

    other : 2 * (b * a) ≤ b * b + a * a → 2 * (a * b) ≤ a * a + b * b
    other h = omega (arith, mul_comm a b)

    go : (t : Bool) → ltb a b ≡ t → 2 * (a * b) ≤ a * a + b * b
    go true f =
        let l : a < b = ltb-true a b f in
        let e : a + (b - a) ≡ b = omega arith in
        subst (λ (c : ℕ). 2 * (a * c) ≤ a * a + c * c) e (ordered a (b - a))
    go false f =
        let l : b ≤ a = ltb-false a b f in
        let e : b + (a - b) ≡ a = omega arith in
        other (subst (λ (c : ℕ). 2 * (b * c) ≤ b * b + c * c) e (ordered b (a - b)))

module _ (x : ℕ → ℕ) where
  sum_of : ℕ → ℕ
  sum_of N = upto (λ k s. s + x k) 0 N 0

  squares_of : ℕ → ℕ
  squares_of N = upto (λ k s. s + x k * x k) 0 N 0

  sum_suc : (N : ℕ) → sum_of (suc N) ≡ sum_of N + x N
  unfolding sum_of
  sum_suc N = upto_suc (λ k s. s + x k) N 0

  squares_suc : (N : ℕ) → squares_of (suc N) ≡ squares_of N + x N * x N
  unfolding squares_of
  squares_suc N = upto_suc (λ k s. s + x k * x k) N 0

  sum_none : sum_of 0 ≡ 0
  unfolding sum_of
  sum_none = upto_none (λ k s. s + x k) 0 0

  cross : (a N : ℕ) → 2 * (a * sum_of N) ≤ squares_of N + N * (a * a)
  cross a zero = rw (sum_none, mul-zero a) (omega arith)
  cross a (suc N) =
      rw (sum_suc N, squares_suc N) (omega (arith, mul-add a (sum_of N) (x N), suc-mul N (a * a), two_products a (x N), cross a N))

  squares_enough : (N : ℕ) → sum_of N * sum_of N ≤ N * squares_of N
  squares_enough zero = rw (sum_none) (omega arith)
  squares_enough (suc N) =
      let S = sum_of N in
      let Q = squares_of N in
      let b = x N in
      rw (sum_suc N, squares_suc N) (omega (arith, mul-add (S + b) S b, add-mul S b S, add-mul S b b, mul_comm b S, suc-mul N (Q + b * b), mul-add N Q (b * b), cross b N, squares_enough N))

-- ---- of the samples

sub_size : (a b : ℕ) → nat_abs (sub_ℕ a b) ≤ a + b
sub_size a b = go (ltb a b) refl
  where
    go : (t : Bool) → ltb a b ≡ t → nat_abs (cond t (negsuc (b - suc a)) (pos (a - b))) ≤ a + b
    go true f = let l : a < b = ltb-true a b f in omega arith
    go false f = omega arith

add_size : (a b : ℤ) → nat_abs (a +ℤ b) ≤ nat_abs a + nat_abs b
add_size (pos a) (pos b) = omega arith
add_size (pos a) (negsuc b) = sub_size a (suc b)
add_size (negsuc a) (pos b) = let h : nat_abs (sub_ℕ b (suc a)) ≤ b + suc a = sub_size b (suc a) in omega arith
add_size (negsuc a) (negsuc b) = omega arith

own_square : (z : ℤ) → z *ℤ z ≡ pos (nat_abs z * nat_abs z)
own_square (pos m) = refl
own_square (negsuc m) = refl

module _ (a : List ℤ) where
  sizes : ℕ → ℕ
  sizes k = nat_abs (sample_at a k)

  total_size : (N : ℕ) → nat_abs (total N a) ≤ sum_of sizes N
  unfolding total sizes
  total_size zero = rw (upto_none (λ k s. s +ℤ sample_at a k) 0 (pos 0)) (omega arith)
  total_size (suc N) = rw (upto_suc (λ k s. s +ℤ sample_at a k) N (pos 0), sum_suc sizes N) (step N (total_size N))
    where
      step : (N : ℕ) → nat_abs (upto (λ k s. s +ℤ sample_at a k) 0 N (pos 0)) ≤ sum_of sizes N
          → nat_abs (upto (λ k s. s +ℤ sample_at a k) 0 N (pos 0) +ℤ sample_at a N) ≤ sum_of sizes N + sizes N
      step N h = le_trans (add_size (upto (λ k s. s +ℤ sample_at a k) 0 N (pos 0)) (sample_at a N)) (omega arith)

  products_squares : (N : ℕ) → products N a a ≡ pos (squares_of sizes N)
  unfolding products squares_of sizes
  products_squares zero = upto_none (λ k s. s +ℤ sample_at a k *ℤ sample_at a k) 0 (pos 0) ∙ ap pos (sym (upto_none (λ k s. s + sizes k * sizes k) 0 0))
  products_squares (suc N) =
      upto_suc (λ k s. s +ℤ sample_at a k *ℤ sample_at a k) N (pos 0)
      ∙ ap (λ (s : ℤ). s +ℤ sample_at a N *ℤ sample_at a N) (products_squares N)
      ∙ ap (λ (z : ℤ). pos (squares_of sizes N) +ℤ z) (own_square (sample_at a N))
      ∙ ap pos (sym (squares_suc sizes N))

  -- the difference of two numbers, the second not above the first
  less : (p q : ℕ) → q ≤ p → pos p -ℤ pos q ≡ pos (p - q)
  less p zero h = ap pos (omega arith)
  less p (suc q) h = rw (le-ltb p (suc q) h)

  not_negative : (N : ℕ) → (m : ℕ) × (pos N *ℤ products N a a -ℤ total N a *ℤ total N a ≡ pos m)
  not_negative N =
      let t = nat_abs (total N a) in
      let q = squares_of sizes N in
      let h : t * t ≤ N * q = le_trans (mul-le-mul (total_size N) (total_size N)) (squares_enough sizes N) in
      (N * q - t * t, rw (products_squares N, own_square (total N a)) (less (N * q) (t * t) h))

pub diagonal_not_negative : (samples : List ℤ) (N x : ℕ) → (m : ℕ) × (whole samples N x x ≡ pos m)
unfolding whole
diagonal_not_negative samples N x = not_negative (band samples N x) N
