-- The steps of a scan: where it ends, and its counters.
use Rattle.std.specs.Prelude.{None}
use mathlib.Core.Path.{◌≡◌, refl, sym, ap, ◌∙◌}
use mathlib.Core.Bool.{Bool, true, false, not}
use Prim.Native.Nat.{ℕ, zero, suc, ◌+◌, ◌*◌, ◌/◌, ◌%◌, ◌<◌, ◌≤◌}
use native.Mathlib.Nat.{mod-lt, mod-zero, div-zero, zero-mod, zero-div, mod-le, div-le_self, div-lt_iff_lt-mul, mul_comm, div-add-mod', mul-add-div_right, mul-add-mod_self_right, div-eq_of_lt, mod-eq_of_lt, add-mul, add-zero}
use native.Mathlib.Omega.{arith}
use lib.Dec.{eqb}
use borrow.Author.Tests.{lt-ltb, le-ltb, eqb-true, eqb-false, ne_eqb}
use Rattle.grid.specs.Loop.{first}
use Rattle.grid.specs.LoopLaws.{first_here, first_next, first_none}
use Rattle.grid.specs.Real.{Vec}
use Rattle.grid.specs.CellLaws.{cell}
use lib.Ieee.{Float}
use Rattle.leaves.specs.Leaf.{is_finite}
use Rattle.leaves.specs.Scan.{class_of, scan, place_of, bad_at}
use Rattle.leaves.specs.ScanLaws.{after, cell_at, first_bad_of}
use Rattle.leaves.specs.declared.Place.{Place}

-- the search so far: what is left to look at gives what the whole gives
abbrev pub Left : (ℕ → Float) → ℕ → ℕ → Type 0
Left x k n = first (λ j. not (is_finite (x j))) k n ≡ first (λ j. not (is_finite (x j))) 0 n

pub left_more : (x : ℕ → Float) (k n : ℕ) → k < n → not (is_finite (x k)) ≡ false → Left x k n → Left x (k + 1) n
left_more x k n h e g = first_next (λ j. not (is_finite (x j))) k n h e g

pub found_here : (x : ℕ → Float) (k n : ℕ) {c : ℕ} → k < n → not (is_finite (x k)) ≡ true → c ≡ class_of (x k) → Left x k n → bad_at k c ≡ scan x n
unfolding scan
found_here x k n h e s g = rw (← first_here (λ j. not (is_finite (x j))) k n h e g, lt-ltb k n h, s)

pub found_none : (x : ℕ → Float) (k n : ℕ) → n ≤ k → Left x k n → None ≡ scan x n
unfolding scan
found_none x k n h g = rw (← first_none (λ j. not (is_finite (x j))) k n h g, le-ltb k n h)

-- no columns, nothing found
pub no_column : (rows cols : ℕ) (v : Vec) → cols ≡ 0 → None ≡ first_bad_of rows cols v
unfolding first_bad_of
no_column rows cols v e = found_none (cell_at rows cols v) 0 (rows * cols) (rw e (omega arith)) refl

-- ---- the counters: number q * n + j stands in row q and column j

place_of_lem : (n q j k : ℕ) → j < n → q * n + j ≡ k → place_of n k ≡ record { i = q; j = j }
unfolding place_of
place_of_lem n q j k h e =
    let r : (q * n + j) / n ≡ q = mul-add-div_right {m = n} (omega arith) q j ∙ ap (◌+◌ q) (div-eq_of_lt h) ∙ add-zero q in
    let s : (q * n + j) % n ≡ j = mul-add-mod_self_right q n j ∙ mod-eq_of_lt h in
    rw (← e, r, s)

pub start_place : (n : ℕ) → record { i = 0; j = 0 } ≡ place_of n 0
unfolding place_of
start_place n = rw (zero-div n, zero-mod n)

pub after_place : (n k : ℕ) → after n (place_of n k) ≡ place_of n (k + 1)
unfolding place_of after
after_place zero k = rw (div-zero k, mod-zero k, div-zero (k + 1), mod-zero (k + 1), ne_eqb (k + 1) 0 (λ e. omega arith))
after_place (suc n) k = go (eqb (k % suc n + 1) (suc n)) refl
  where
    go : (b : Bool) → eqb (k % suc n + 1) (suc n) ≡ b → after (suc n) (place_of (suc n) k) ≡ place_of (suc n) (k + 1)
    go true e =
        let h : k % suc n + 1 ≡ suc n = eqb-true _ _ e in
        rw e (sym (place_of_lem (suc n) (k / suc n + 1) 0 (k + 1) (omega arith) (omega (arith, div-add-mod' k (suc n), add-mul (k / suc n) 1 (suc n)))))
    go false e =
        let l : k % suc n < suc n = mod-lt k {m = suc n} (omega arith) in
        rw e (sym (place_of_lem (suc n) (k / suc n) (k % suc n + 1) (k + 1) (omega (arith, eqb-false (k % suc n + 1) (suc n) e)) (omega (arith, div-add-mod' k (suc n)))))

-- number k stands at most k rows down and k columns in, and within the matrix if k is
pub place_low : (n k : ℕ) {p : Place} → p ≡ place_of n k → (p.i ≤ k) × (p.j ≤ k)
unfolding place_of
place_low n k e = rw e (div-le_self k n, mod-le k n)

pub place_within : (rows cols k : ℕ) {p : Place} → k < rows * cols → p ≡ place_of cols k → p.j * rows + p.i < rows * cols
unfolding place_of
place_within rows zero k h e = absurd (omega arith)
place_within rows (suc n) k h e =
    rw (e, mul_comm rows (suc n)) (cell (suc n) rows (k % suc n) (k / suc n) (mod-lt k (omega arith)) ((div-lt_iff_lt-mul (omega arith)).1 h))
