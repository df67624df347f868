-- A number times a power of two, exactly: sign and significand stay, and the exponent moves. Which numbers are in the normal range, and what is asked of a product and of a quotient. Definitions only.
use Rattle.std.specs.Prelude.{◌≡◌, Bool, true, false, ◌||◌, ℕ, zero, suc, ◌*◌, ◌^◌, T, ltb, eqb, ℤ, pos, ◌+ℤ◌, Float}
use Rattle.std.specs.Float.{nan, inf, fin}
use Rattle.std.specs.Float.Ieee.{up, down}
use Rattle.grid.specs.Real.{◌⊗◌, ◌⊘◌}

-- the exponent of m * 2 ^ e times 2 ^ k; a zero is written with one exponent alone
abbrev pub moved : ℤ → ℕ → ℤ → ℤ
moved k zero e = e
moved k (suc m) e = e +ℤ k

-- x times 2 ^ k
unfoldable pub scale : ℤ → Float → Float
scale k nan = nan
scale k (inf s) = inf s
scale k (fin s m e) = fin s m (moved k m e)

-- zero, of either sign
unfoldable pub is_zero : Float → Bool
is_zero nan = false
is_zero (inf s) = false
is_zero (fin s m e) = eqb m 0

-- zero, or finite and above 2 ^ -1022 in magnitude
unfoldable pub fine : Float → Bool
fine nan = false
fine (inf s) = false
fine (fin s m e) = eqb m 0 || ltb (down e) (m * up e * 2 ^ 1022)

-- y is x times 2 ^ k
abbrev pub Scaled : ℕ → Float → Float → Type 0
Scaled k x y = y ≡ scale (pos k) x

-- a product is zero or in the normal range, and zero only where a factor is; a quotient likewise, and zero only where what is divided is

pub record Product (x y : Float) : Type 0 where
  pub good : T (fine (x ⊗ y))
  pub zeros : is_zero (x ⊗ y) ≡ true → (is_zero x || is_zero y) ≡ true

pub record Quotient (x y : Float) : Type 0 where
  pub good : T (fine (x ⊘ y))
  pub zeros : is_zero (x ⊘ y) ≡ true → is_zero x ≡ true
