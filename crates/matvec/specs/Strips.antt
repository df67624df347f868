-- Rows added up, some of them and some of their columns at a time: each number of the sum is summed in the same order. Laws only.
-- What stands here is what the code does on the way; no public promise cites it.
use Rattle.std.specs.Prelude.{◌≡◌, refl, ◌++◌, ℕ, ◌+◌, ◌-◌, ◌<◌, ◌≤◌, Float, length, take, drop, set}
use Rattle.std.proofs.Common.{sym, ap, ◌∙◌, arith, get_or-take, get_or-drop, drop-drop}
use Rattle.std.specs.Float.{nan}
use Rattle.grid.specs.Loop.{upto}
use Rattle.grid.specs.LoopLaws.{upto_more, upto_both, start, joined}
use Rattle.grid.specs.Real.{Vec, at, zero64, ◌⊕◌, ◌⊗◌}
use Rattle.grid.specs.Cell.{entry}
use Rattle.grid.specs.Table.{table, part}
use Rattle.grid.specs.TableLaws.{length_table, at_table, table_all, table_same, each, each_from, turns}

-- number c of the sum: row r adds its number there by number r of v
abbrev pub column_step : ℕ → Vec → Vec → ℕ → ℕ → Float → Float
column_step n a v c r acc = acc ⊕ entry a n r c ⊗ at v r

-- rows j to e added to number c of w
abbrev pub cell_step : ℕ → Vec → Vec → ℕ → ℕ → ℕ → Vec → Vec
cell_step n a v j e c w = set w c (upto (column_step n a v c) j e (at w c))

-- ---- sixteen columns

-- row r by x, from column c on
abbrev pub sixteen_step : ℕ → Vec → ℕ → ℕ → Float → ℕ → Vec → Vec
sixteen_step n a r c x k y = set y k (at y k ⊕ entry a n r (c + k) ⊗ x)

abbrev pub row_step : ℕ → Vec → Vec → ℕ → ℕ → Vec → Vec
row_step n a v c r y = upto (sixteen_step n a r c (at v r)) 0 16 y

-- rows j to e added to the sixteen numbers y from column c on
unfoldable pub stripped : ℕ → Vec → Vec → ℕ → ℕ → ℕ → Vec → Vec
stripped n a v j e c y = table (λ k. upto (column_step n a v (c + k)) j e (at y k)) 16

pub strip_none : (n : ℕ) (a v : Vec) (j c : ℕ) (y : Vec) → length y ≡ 16 → y ≡ stripped n a v j j c y
unfolding stripped
strip_none n a v j c y h = table_all y 16 h ∙ table_same (at y) _ 16 (λ k l. start (column_step n a v (c + k)) j (at y k))

strip_more : (n : ℕ) (a v : Vec) (j r c : ℕ) (y d : Vec) {z : Vec} → j ≤ r → d ≡ stripped n a v j r c y → z ≡ row_step n a v c r d → z ≡ stripped n a v j (r + 1) c y
unfolding stripped
strip_more n a v j r c y d l e g =
    let f : ℕ → Float = λ k. upto (column_step n a v (c + k)) j r (at y k) in
    g
    ∙ each (λ k x. x ⊕ entry a n r (c + k) ⊗ at v r) d 16 (ap length e ∙ length_table f 16)
    ∙ table_same _ _ 16 (λ k p.
    ap (column_step n a v (c + k) r) (ap (λ (z : Vec). at z k) e ∙ at_table f 16 k p) ∙ sym (upto_more (column_step n a v (c + k)) j r (at y k) l))

pub strip_rows : (n : ℕ) (a v : Vec) (j e c : ℕ) (y d : Vec) {z : Vec} → j ≤ e → d ≡ stripped n a v j j c y → z ≡ upto (row_step n a v c) j e d → z ≡ stripped n a v j e c y
strip_rows n a v j e c y d l h g =
    g ∙ upto_both (λ r x t. x ≡ stripped n a v j r c y) (row_step n a v c) (row_step n a v c) j e d d l (λ r x t p q b. strip_more n a v j r c y x p b refl) h

-- the strip from c on, after the columns before it
pub strip_done : (n : ℕ) (a v : Vec) (j e c : ℕ) (w₀ w : Vec) {ys z : Vec} → c + 16 ≤ length w → w ≡ upto (cell_step n a v j e) 0 c w₀
    → ys ≡ stripped n a v j e c (part c (c + 16) w) → z ≡ take c w ++ (ys ++ drop (c + 16 - c) (drop c w)) → z ≡ upto (cell_step n a v j e) 0 (c + 16) w₀
unfolding stripped
strip_done n a v j e c w₀ w h p q r =
    let G : ℕ → Float → Float = λ k x. upto (column_step n a v k) j e x in
    let sixteen : c + 16 - c ≡ 16 = omega arith in
    let there : (k : ℕ) → k < 16 → at (part c (c + 16) w) k ≡ at w (c + k) = λ k l. get_or-take (c + 16 - c) (drop c w) k nan (omega (arith, l)) ∙ get_or-drop c w k nan in
    r
    ∙ ap (λ (l : Vec). take c w ++ (l ++ drop (c + 16 - c) (drop c w))) (q ∙ table_same _ _ 16 (λ k l. ap (G (c + k)) (there k l)))
    ∙ ap (λ (l : Vec). take c w ++ (table (λ k. G (c + k) (at w (c + k))) 16 ++ l)) (drop-drop (c + 16 - c) c w ∙ ap (λ (k : ℕ). drop (c + k) w) sixteen)
    ∙ sym (each_from G w c 16 h)
    ∙ joined (cell_step n a v j e) 0 c (c + 16) w₀ (omega arith) (omega arith) p

-- all columns of rows j to e
pub band_done : (n : ℕ) (a v : Vec) (j e : ℕ) (w : Vec) {z : Vec} → j ≤ e → length w ≡ n → w ≡ turns (column_step n a v) n j → z ≡ upto (cell_step n a v j e) 0 n w
    → z ≡ turns (column_step n a v) n e
unfolding turns
band_done n a v j e w l h p q =
    let f : ℕ → Float = λ c. upto (column_step n a v c) 0 j zero64 in
    q
    ∙ each (λ c x. upto (column_step n a v c) j e x) w n h
    ∙ table_same _ _ n (λ c m. ap (upto (column_step n a v c) j e) (ap (λ (x : Vec). at x c) p ∙ at_table f n c m) ∙ joined (column_step n a v c) 0 j e zero64 (omega arith) l refl)
