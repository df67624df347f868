-- The figures of a list of tiles, counted from the list alone. Definitions only.
use Rattle.std.specs.Prelude.{Bool, cond, ◌&&◌, List, [], ◌∷◌, ◌++◌, ℕ, zero, suc, ◌+◌, ltb, leb, eqb, take}

-- a tile: its answer number and its passes
pub record Tile : Type 0 where
  pub answer : ℕ
  pub passes : ℕ

-- how many with that answer
unfoldable pub count : ℕ → List Tile → ℕ
count a [] = 0
count a (x ∷ l) = cond (eqb x.answer a) 1 0 + count a l

-- f 0, f 1, .., f (m - 1)
unfoldable pub table : (ℕ → ℕ) → ℕ → List ℕ
table f zero = []
table f (suc m) = table f m ++ (f m ∷ [])

-- how many with each answer, 0 to 15
abbrev pub counts : List Tile → List ℕ
counts l = table (λ a. count a l) 16

-- all their passes
unfoldable pub total : List Tile → ℕ
total [] = 0
total (x ∷ l) = x.passes + total l

-- the most passes, 0 of no tile
abbrev pub larger : ℕ → ℕ → ℕ
larger m n = cond (ltb m n) n m

unfoldable pub most : List Tile → ℕ
most [] = 0
most (x ∷ l) = larger x.passes (most l)

-- the place, from 0, of the first tile that has that many passes, and the length where none has
unfoldable pub place : ℕ → List Tile → ℕ
place m [] = 0
place m (x ∷ l) = cond (eqb x.passes m) 0 (suc (place m l))

unfoldable pub first : List Tile → ℕ
first l = place (most l) l

-- the tiles of a series that are added: those whose numbers are in range, the first 65,536 of them
abbrev pub in_range : ℕ → ℕ → Bool
in_range answer passes = leb answer 15 && leb passes 15360

abbrev pub good : Tile → Bool
good x = in_range x.answer x.passes

unfoldable pub goods : List Tile → List Tile
goods [] = []
goods (x ∷ l) = cond (good x) (x ∷ goods l) (goods l)

abbrev pub accepted : List Tile → List Tile
accepted l = take 65536 (goods l)
