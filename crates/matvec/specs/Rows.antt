-- The rows of a product, stored one after the other, are the product, whatever stood there before; a sum and the dot behind it in one walk. Laws only.
-- `put_dot` and `added_dot` are what the code does on the way; no public promise cites them.
use Rattle.std.specs.Prelude.{◌≡◌, ◌++◌, ℕ, ◌+◌, ◌-◌, ◌≤◌, ◌<◌, Float, length, take, drop, set}
use Rattle.std.proofs.Common.{refl, sym, ap, ◌∙◌, arith, drop-drop, get_or-set_other}
use Rattle.std.specs.Float.{nan}
use Rattle.grid.specs.Loop.{upto}
use Rattle.grid.specs.LoopLaws.{done, upto_keeps}
use Rattle.grid.specs.Real.{Vec, at, zero64, ◌⊕◌, ◌⊗◌}
use Rattle.grid.specs.Cell.{entry}
use Rattle.grid.specs.Table.{table}
use Rattle.grid.specs.TableLaws.{at_table, each, each_from, turns}
use Rattle.gram_schmidt.specs.Gram.{dot}
use Rattle.matvec.specs.Matvec.{product, added}

-- row i of a by v
abbrev pub row_step : ℕ → Vec → Vec → ℕ → ℕ → Float → Float
row_step n a v i j acc = acc ⊕ entry a n i j ⊗ at v j

abbrev pub row_dot : ℕ → Vec → Vec → ℕ → Float
row_dot n a v i = upto (row_step n a v i) 0 n zero64

abbrev pub put_dot : ℕ → Vec → Vec → ℕ → Vec → Vec
put_dot n a v i w = set w i (row_dot n a v i)

-- k rows from i on
pub put_rows : (n : ℕ) (a v w : Vec) (i k : ℕ) {x : Vec} → i + k ≤ length w → x ≡ turns (λ j. row_step n a v (i + j)) k n
    → take i w ++ (x ++ drop (i + k - i) (drop i w)) ≡ upto (put_dot n a v) i (i + k) w
unfolding turns
put_rows n a v w i k h e =
    let there : i + (i + k - i) ≡ i + k = omega arith in
    ap (λ (x : Vec). take i w ++ (x ++ drop (i + k - i) (drop i w))) e
    ∙ ap (λ (r : Vec). take i w ++ (table (λ j. row_dot n a v (i + j)) k ++ r)) (drop-drop (i + k - i) i w ∙ ap (λ (z : ℕ). drop z w) there)
    ∙ sym (each_from (λ j x. row_dot n a v j) w i k h)

-- all rows
pub all_rows : (n : ℕ) (a v w : Vec) → length w ≡ n → upto (put_dot n a v) 0 n w ≡ product n a v
unfolding product
all_rows n a v w l = each (λ j x. row_dot n a v j) w n l

-- ---- w and f times u, and what that is by t

unfoldable pub added_dot : ℕ → Float → Vec → Vec → Vec → Float × Vec
added_dot n f u t w = (dot n (added n f u w) t, added n f u w)

abbrev add_step : Float → Vec → ℕ → Vec → Vec
add_step f u i w = set w i (at w i ⊕ f ⊗ at u i)

-- number i is w's until its turn comes
before_turn : (f : Float) (u w : Vec) (i : ℕ) → at (upto (add_step f u) 0 i w) i ≡ at w i
before_turn f u w i =
    upto_keeps (λ x y. at x i ≡ at w i) (add_step f u) (add_step f u) 0 i w w (λ j x y p q h. get_or-set_other x j i _ nan (λ e. omega arith) ∙ h) refl

-- and then what it stays
pub at_turn : (n : ℕ) (f : Float) (u w : Vec) (i : ℕ) {x : Vec} → i < n → length w ≡ n → x ≡ upto (add_step f u) 0 i w → at x i ⊕ f ⊗ at u i ≡ at (added n f u w) i
unfolding added
at_turn n f u w i l g e =
    ap (λ (y : Float). y ⊕ f ⊗ at u i) (ap (λ (v : Vec). at v i) e ∙ before_turn f u w i)
    ∙ sym (at_table (λ j. at w j ⊕ f ⊗ at u j) n i l)
    ∙ ap (λ (v : Vec). at v i) (sym (each (λ j y. y ⊕ f ⊗ at u j) w n g))

pub add_dot_done : (n : ℕ) (f : Float) (u t w : Vec) (i : ℕ) {x : Vec} {acc : Float} → i ≤ n → n ≤ i → x ≡ upto (add_step f u) 0 i w → acc ≡ upto (λ row acc. acc ⊕ at (added n f u w) row ⊗ at t row) 0 i zero64
    → ◌≡◌ {A = Float × Vec} (acc, x) (added_dot n f u t w)
unfolding added_dot dot added
add_dot_done n f u t w i p q e g = λ k. (done (λ row acc. acc ⊕ at (added n f u w) row ⊗ at t row) 0 zero64 p q g k, done (add_step f u) 0 w p q e k)
