-- A column that is turned changes no other column's product with column m. Laws only.
use mathlib.Core.Path.{◌≡◌, refl, sym, ◌∙◌}
use mathlib.Core.Logic.{◌≢◌}
use Prim.Native.Nat.{ℕ, ◌<◌, ◌≤◌}
use native.Mathlib.Omega.{arith}
use lib.Ieee.{Float}
use Rattle.grid.specs.Loop.{upto}
use Rattle.grid.specs.LoopLaws.{upto_keeps, upto_same}
use Rattle.grid.specs.Real.{Vec, zero64, ◌⊕◌, ◌⊗◌}
use Rattle.grid.specs.Cell.{at2}
use Rattle.grid.specs.CellLaws.{put_elsewhere}
use Rattle.eigen_tred2_definition.specs.Tred2.{column_dot, take_off}
use Rattle.eigen_tred2_definition.specs.Tred2Steps.{column_dot_step, take_step, turn_column_step}

-- u and v are the same but in column j
abbrev Else : ℕ → ℕ → Vec → Vec → Type 0
Else n j u v = (r c : ℕ) → r < n → j ≢ c → at2 u n r c ≡ at2 v n r c

take_else : (n m j : ℕ) (g : Float) (d v : Vec) → m ≤ n → Else n j (take_off n m j g d v) v
unfolding take_off
take_else n m j g d v l = upto_keeps (λ u t. Else n j u v) (take_step n j g d) (take_step n j g d) 0 m v v
    (λ k u t a b h r c p q. put_elsewhere u n k j r c _ (omega arith) p (λ e. q e.1) ∙ h r c p q)
    (λ r c p q. refl)

dot_else : (n m j c : ℕ) (u v : Vec) → m < n → j ≢ m → j ≢ c → Else n j u v → column_dot n m c u ≡ column_dot n m c v
unfolding column_dot
dot_else n m j c u v l p q h = upto_same (column_dot_step n m c u) (column_dot_step n m c v) 0 m zero64
    (λ k g a b i. g ⊕ h k m (omega arith) p i ⊗ h k c (omega arith) q i)

turned_else : (n m i c : ℕ) (d v : Vec) → m < n → i < m → i ≢ c → column_dot n m c v ≡ column_dot n m c (turn_column_step n m d i v)
turned_else n m i c d v l h q =
    let p : i ≢ m = λ e. omega arith in
    sym (dot_else n m i c (turn_column_step n m d i v) v l p q (take_else n m i (column_dot n m i v) d v (omega arith)))

-- the columns from j up to i are turned: one that stands at i or behind has the product that it had
pub kept : (n m j i c : ℕ) (d v : Vec) → m < n → i ≤ m → i ≤ c → column_dot n m c v ≡ column_dot n m c (upto (turn_column_step n m d) j i v)
kept n m j i c d v l h q = upto_keeps (λ u t. column_dot n m c v ≡ column_dot n m c u) (turn_column_step n m d) (turn_column_step n m d) j i v v
    (λ k u t a b e. e ∙ turned_else n m k c d u l (omega arith) (λ z. omega arith)) refl
