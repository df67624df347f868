-- tred2 leaves v, d and e as long as they were. Laws only.
use Rattle.std.specs.Prelude.{◌≡◌, refl, Bool, true, false, cond, ℕ, suc, ◌+◌, ◌-◌, Float, length}
use Rattle.std.proofs.Common.{◌∙◌, length-set}
use Rattle.std.specs.Float.Ieee.{eq, ne}
use Rattle.grid.specs.LoopLaws.{down_both}
use Rattle.grid.specs.Real.{Vec, zero64}
use Rattle.grid.specs.CellLaws.{upto_long}
use Rattle.eigen_tred2_definition.specs.Tred2.{skip_row, clear, over_scale, generate, similar_column, similarity, over_h, lessen, update_column, updates, reflect, skip, reduce, householder, reduction, column_over, take_off, turn_columns, clear_column, apply, accumulate, accumulation, copy_last, move_last, tred2}
use Rattle.eigen_tred2_definition.specs.Tred2Steps.{skip_step, clear_step, over_scale_step, similar_step, similarity_step, over_hStep, lessen_step, update_step, updates_step, column_over_step, take_step, turn_column_step, clear_column_step, copy_last_step, move_step}

-- ---- e through the reduction

clear_long : (i : ℕ) (e : Vec) → length (clear i e) ≡ length e
unfolding clear
clear_long i e = upto_long (λ e. e) clear_step 0 i e (λ j e. length-set e j zero64)

generate_long : (i : ℕ) (scale : Float) (d e : Vec) → length (generate i scale d e).2 ≡ length e
unfolding generate
generate_long i scale d e = simp (clear_long, length-set)

column_long : (n i j : ℕ) (f : Float) (v d : Vec) (s : Float × Vec) → length (similar_column n i j f v d s).1 ≡ length s.1
unfolding similar_column
column_long n i j f v d s = upto_long (λ (s : Float × Vec). s.1) (similar_step n j f v d) (j + 1) i s (λ k s. simp length-set)

similarity_long : (n i : ℕ) (d : Vec) (s : Vec × Vec) → length (similarity n i d s).1 ≡ length s.1
unfolding similarity
similarity_long n i d s = upto_long (λ (s : Vec × Vec). s.1) (similarity_step n i d) 0 i s (λ j s. simp (length-set, column_long))

over_h_long : (i : ℕ) (h : Float) (d e : Vec) → length (over_h i h d e).1 ≡ length e
unfolding over_h
over_h_long i h d e = upto_long (λ (s : Float × Vec). s.1) (over_hStep h d) 0 i (zero64, e) (λ j s. simp length-set)

lessen_long : (i : ℕ) (hh : Float) (d e : Vec) → length (lessen i hh d e) ≡ length e
unfolding lessen
lessen_long i hh d e = upto_long (λ e. e) (lessen_step hh d) 0 i e (λ j e. simp length-set)

-- ---- v through the reduction

skip_row_square : (n i : ℕ) (s : Vec × Vec) → length (skip_row n i s).0 ≡ length s.0
unfolding skip_row
skip_row_square n i s = upto_long (λ (s : Vec × Vec). s.0) (skip_step n i) 0 i s (λ j s. simp length-set)

similarity_square : (n i : ℕ) (d : Vec) (s : Vec × Vec) → length (similarity n i d s).0 ≡ length s.0
unfolding similarity
similarity_square n i d s = upto_long (λ (s : Vec × Vec). s.0) (similarity_step n i d) 0 i s (λ j s. simp length-set)

update_square : (n i j : ℕ) (f g : Float) (d e v : Vec) → length (update_column n i j f g d e v) ≡ length v
unfolding update_column
update_square n i j f g d e v = upto_long (λ v. v) (update_step n j f g d e) j i v (λ k v. simp length-set)

updates_square : (n i : ℕ) (e : Vec) (s : Vec × Vec) → length (updates n i e s).0 ≡ length s.0
unfolding updates
updates_square n i e s = upto_long (λ (s : Vec × Vec). s.0) (updates_step n i e) 0 i s (λ j s. simp (length-set, update_square))

-- ---- d through the reduction

skip_row_diagonal : (n i : ℕ) (s : Vec × Vec) → length (skip_row n i s).1 ≡ length s.1
unfolding skip_row
skip_row_diagonal n i s = upto_long (λ (s : Vec × Vec). s.1) (skip_step n i) 0 i s (λ j s. simp length-set)

over_scale_diagonal : (i : ℕ) (scale : Float) (d : Vec) → length (over_scale i scale d).1 ≡ length d
unfolding over_scale
over_scale_diagonal i scale d = upto_long (λ (s : Float × Vec). s.1) (over_scale_step scale) 0 i (zero64, d) (λ j s. simp length-set)

generate_diagonal : (i : ℕ) (scale : Float) (d e : Vec) → length (generate i scale d e).1 ≡ length d
unfolding generate
generate_diagonal i scale d e = simp length-set (over_scale_diagonal i scale d)

updates_diagonal : (n i : ℕ) (e : Vec) (s : Vec × Vec) → length (updates n i e s).1 ≡ length s.1
unfolding updates
updates_diagonal n i e s = upto_long (λ (s : Vec × Vec). s.1) (updates_step n i e) 0 i s (λ j s. simp length-set)

-- ---- the reduction: of (v, d, e), to (h, v, d, e) at one i

record Long (s : Vec × Vec × Vec) (v d e : Vec) : Type 0 where
  square : length v ≡ length s.0
  diagonal : length d ≡ length s.1
  beside : length e ≡ length s.2

reflect_long : (n i : ℕ) (scale : Float) (s : Vec × Vec × Vec) → Long s (reflect n i scale s).1 (reflect n i scale s).2 (reflect n i scale s).3
unfolding reflect
reflect_long n i scale s = record {
  square = simp (updates_square, similarity_square);
  diagonal = simp (updates_diagonal, generate_diagonal);
  beside = simp (lessen_long, over_h_long, similarity_long, generate_long);
}

skip_long : (n i : ℕ) (s : Vec × Vec × Vec) → Long s (skip n i s).1 (skip n i s).2 (skip n i s).3
unfolding skip
skip_long n i s = record { square = simp skip_row_square; diagonal = simp skip_row_diagonal; beside = simp length-set }

reduce_long : (n i : ℕ) (scale : Float) (s : Vec × Vec × Vec) → Long s (reduce n i scale s).1 (reduce n i scale s).2 (reduce n i scale s).3
unfolding reduce
reduce_long n i scale s = go (eq scale zero64)
  where
    either : Bool → Float × Vec × Vec × Vec
    either b = cond b (skip n i s) (reflect n i scale s)

    go : (b : Bool) → Long s (either b).1 (either b).2 (either b).3
    go true = skip_long n i s
    go false = reflect_long n i scale s

householder_long : (n i : ℕ) (s : Vec × Vec × Vec) → Long s (householder n i s).0 (householder n i s).1 (householder n i s).2
unfolding householder
householder_long n i s =
    let r = reduce_long n i _ s in
    record { square = r.square; diagonal = simp length-set r.diagonal; beside = r.beside }

reduction_long : (n : ℕ) (s : Vec × Vec × Vec) → Long s (reduction n s).0 (reduction n s).1 (reduction n s).2
unfolding reduction
reduction_long n s = down_both (λ i u t. Long s u.0 u.1 u.2) (householder n) (householder n) (n - 1) s s
    (λ i u t l q. let h = householder_long n (suc i) u in
    record { square = h.square ∙ q.square; diagonal = h.diagonal ∙ q.diagonal; beside = h.beside ∙ q.beside })
    (record { square = refl; diagonal = refl; beside = refl })

-- ---- v through the accumulation

take_square : (n m j : ℕ) (g : Float) (d v : Vec) → length (take_off n m j g d v) ≡ length v
unfolding take_off
take_square n m j g d v = upto_long (λ v. v) (take_step n j g d) 0 m v (λ k v. simp length-set)

turn_columns_square : (n m : ℕ) (d v : Vec) → length (turn_columns n m d v) ≡ length v
unfolding turn_columns
turn_columns_square n m d v = upto_long (λ v. v) (turn_column_step n m d) 0 m v (λ j v. simp take_square)

clear_square : (n m : ℕ) (v : Vec) → length (clear_column n m v) ≡ length v
unfolding clear_column
clear_square n m v = upto_long (λ v. v) (clear_column_step n m) 0 m v (λ k v. simp length-set)

apply_square : (n m : ℕ) (h : Float) (s : Vec × Vec) → length (apply n m h s).0 ≡ length s.0
unfolding apply
apply_square n m h s = go (ne h zero64)
  where
    go : (b : Bool) → length (cond b (turn_columns n m (column_over n m h s.0 s.1) s.0, column_over n m h s.0 s.1) s).0 ≡ length s.0
    go true = turn_columns_square n m _ s.0
    go false = refl

accumulate_square : (n i : ℕ) (s : Vec × Vec) → length (accumulate n i s).0 ≡ length s.0
unfolding accumulate
accumulate_square n i s = simp (clear_square, apply_square, length-set)

accumulation_square : (n : ℕ) (s : Vec × Vec) → length (accumulation n s).0 ≡ length s.0
unfolding accumulation
accumulation_square n s = upto_long (λ (s : Vec × Vec). s.0) (accumulate n) 0 (n - 1) s (λ i s. accumulate_square n i s)

move_square : (n : ℕ) (s : Vec × Vec) → length (move_last n s).0 ≡ length s.0
unfolding move_last
move_square n s = upto_long (λ (s : Vec × Vec). s.0) (move_step n) 0 n s (λ j s. simp length-set)

-- ---- d through the accumulation

column_over_diagonal : (n m : ℕ) (h : Float) (v d : Vec) → length (column_over n m h v d) ≡ length d
unfolding column_over
column_over_diagonal n m h v d = upto_long (λ d. d) (column_over_step n m h v) 0 m d (λ j d. simp length-set)

apply_diagonal : (n m : ℕ) (h : Float) (s : Vec × Vec) → length (apply n m h s).1 ≡ length s.1
unfolding apply
apply_diagonal n m h s = go (ne h zero64)
  where
    go : (b : Bool) → length (cond b (turn_columns n m (column_over n m h s.0 s.1) s.0, column_over n m h s.0 s.1) s).1 ≡ length s.1
    go true = column_over_diagonal n m h s.0 s.1
    go false = refl

accumulation_diagonal : (n : ℕ) (s : Vec × Vec) → length (accumulation n s).1 ≡ length s.1
unfolding accumulation accumulate
accumulation_diagonal n s = upto_long (λ (s : Vec × Vec). s.1) (accumulate n) 0 (n - 1) s (λ i s. apply_diagonal n (i + 1) _ _)

move_diagonal : (n : ℕ) (s : Vec × Vec) → length (move_last n s).1 ≡ length s.1
unfolding move_last
move_diagonal n s = upto_long (λ (s : Vec × Vec). s.1) (move_step n) 0 n s (λ j s. simp length-set)

copy_diagonal : (n : ℕ) (v d : Vec) → length (copy_last n v d) ≡ length d
unfolding copy_last
copy_diagonal n v d = upto_long (λ d. d) (copy_last_step n v) 0 n d (λ j d. simp length-set)

-- ---- the whole

pub tred2_diagonal : (n : ℕ) (s : Vec × Vec × Vec) → length (tred2 n s).1 ≡ length s.1
unfolding tred2
tred2_diagonal n s = move_diagonal n _ ∙ accumulation_diagonal n _ ∙ (reduction_long n _).diagonal ∙ copy_diagonal n s.0 s.1

pub tred2_beside : (n : ℕ) (s : Vec × Vec × Vec) → length (tred2 n s).2 ≡ length s.2
unfolding tred2
tred2_beside n s = simp length-set (reduction_long n _).beside

pub tred2_square : (n : ℕ) (s : Vec × Vec × Vec) → length (tred2 n s).0 ≡ length s.0
unfolding tred2
tred2_square n s = simp (length-set, move_square, accumulation_square) (reduction_long n _).square
