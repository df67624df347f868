-- The first number that is not finite, and what it is: of numbers, of a list, of a lower triangle; and a matrix as a list. Definitions only.
use Rattle.leaves.specs.declared.Bad.{Bad}
use Rattle.std.specs.Prelude.{cond, not, ℕ, ◌*◌, ◌/◌, ◌%◌, leb, ltb, Float, length, Option, Some, None}
use Rattle.std.specs.Float.{nan, inf, fin}
use Rattle.grid.specs.Loop.{first}
use Rattle.grid.specs.Real.{Vec, at, zero64}
use Rattle.grid.specs.Cell.{at2}
use Rattle.grid.specs.Table.{table}
use Rattle.leaves.specs.Leaf.{is_finite}
use Rattle.leaves.specs.declared.Place.{Place}

-- the class of a number that is not finite, by the number that a mark answers: 8 infinite, 10 NaN
unfoldable pub class_of : Float → ℕ
class_of nan = 10
class_of (inf s) = 8
class_of (fin s m e) = 8

-- the number at index k, whose class is c
abbrev pub bad_at : ℕ → ℕ → Option Bad
bad_at k c = Some (record { index = k; class = c })

-- the first of n numbers x that is not finite: its index and its class
unfoldable pub scan : (ℕ → Float) → ℕ → Option Bad
scan x n = let k = first (λ k. not (is_finite (x k))) 0 n in cond (ltb k n) (bad_at k (class_of (x k))) None

-- the first number of a list that is not finite
abbrev pub first_bad : Vec → Option Bad
first_bad d = scan (at d) (length d)

-- the same on or below the diagonal of the matrix a, with n in a row: what stands above counts as 0. Number k is in row k / n, 0 where n is 0, and column k % n
unfoldable pub first_bad_lower : ℕ → Vec → Option Bad
first_bad_lower n a = scan (λ k. cond (leb (k % n) (k / n)) (at a k) zero64) (length a)

-- the worked-on matrix v of that many columns, row by row
unfoldable pub by_rows : ℕ → Vec → Vec
by_rows cols v = table (λ k. at2 v (length v / cols) (k / cols) (k % cols)) (length v / cols * cols)

-- ---- for the code, which counts rows and columns along

-- the row and the column of number k where n are in a row; where n is 0 all are in row 0
unfoldable pub place_of : ℕ → ℕ → Place
place_of n k = record { i = k / n; j = k % n }

-- what is read of the number x at p: what stands above the diagonal counts as 0
unfoldable pub lower_of : Place → Float → Float
lower_of p x = cond (leb p.j p.i) x zero64
