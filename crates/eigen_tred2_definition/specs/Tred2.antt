-- Householder reduction of a symmetric matrix to tridiagonal form: document 000's `tred2`, operation for operation. Definitions only.
-- v is the n by n matrix and stands column by column: cell (i, j), document 000's v[i * n + j], is element j * n + i. Only where a cell stands differs.
-- Each loop of the Rust is one `upto` (or `down`, for `.rev()`): its step, from where, up to where, and what it starts from. What a step changes comes last, in the
-- order v, d, e, and in front of them the number that the Rust sums up.
use Rattle.std.specs.Prelude.{cond, ℕ, ◌+◌, ◌-◌, Float, set}
use Rattle.std.specs.Float.Ieee.{neg, lt, eq, ne}
use Rattle.grid.specs.Loop.{upto, down}
use Rattle.grid.specs.Real.{Vec, zero64, one64, at, ◌⊕◌, ◌⊖◌, ◌⊗◌, ◌⊘◌}
use Rattle.grid.specs.Cell.{at2, put2}
use Rattle.root.specs.Root.{root}
use Rattle.leaves.specs.Leaf.{magnitude}

-- ---- the reduction, at one i

-- the scale of row i: the magnitudes of d[0] .. d[i - 1], summed from +0.0
unfoldable pub scale_of : ℕ → Vec → Float
scale_of i d = upto (λ k scale. scale ⊕ magnitude (at d k)) 0 i zero64

-- where scale is 0: row i - 1 of v into d, and row and column i of v to 0, at the first i places
unfoldable pub skip_row : ℕ → ℕ → Vec × Vec → Vec × Vec
skip_row n i s = upto (λ j (v, d). (put2 (put2 v n i j zero64) n j i zero64, set d j (at2 v n (i - 1) j))) 0 i s

-- d over scale, and h, the sum of its squares from +0.0
unfoldable pub over_scale : ℕ → Float → Vec → Float × Vec
over_scale i scale d = upto (λ k (h, d). let x = at d k ⊘ scale in (h ⊕ x ⊗ x, set d k x)) 0 i (zero64, d)

-- e[0] .. e[i - 1] to 0
unfoldable pub clear : ℕ → Vec → Vec
clear i e = upto (λ j e. set e j zero64) 0 i e

-- g with the sign that f has not
unfoldable pub against : Float → Float → Float
against f g = cond (lt zero64 f) (neg g) g

-- the Householder vector: h, d and e
unfoldable pub generate : ℕ → Float → Vec → Vec → Float × Vec × Vec
generate i scale d e =
    let (h, d) = over_scale i scale d in
    let f = at d (i - 1) in
    let g = against f (root h) in
    (h ⊖ f ⊗ g, set d (i - 1) (f ⊖ g), clear i (set e i (scale ⊗ g)))

-- the similarity transformation, column j below the diagonal: g and e
unfoldable pub similar_column : ℕ → ℕ → ℕ → Float → Vec → Vec → Float × Vec → Float × Vec
similar_column n i j f v d s = upto (λ k (g, e). let x = at2 v n k j in (g ⊕ x ⊗ at d k, set e k (at e k ⊕ x ⊗ f))) (j + 1) i s

-- and the whole of it
unfoldable pub similarity : ℕ → ℕ → Vec → Vec × Vec → Vec × Vec
similarity n i d s =
    upto (λ j (v, e).
    let f = at d j in
    let v = put2 v n j i f in
    let (g, e) = similar_column n i j f v d (at e j ⊕ at2 v n j j ⊗ f, e) in
    (v, set e j g)) 0 i s

-- e over h, and f, the sum of its products with d from +0.0
unfoldable pub over_h : ℕ → Float → Vec → Vec → Float × Vec
over_h i h d e = upto (λ j (f, e). let x = at e j ⊘ h in (f ⊕ x ⊗ at d j, set e j x)) 0 i (zero64, e)

-- e less hh times d
unfoldable pub lessen : ℕ → Float → Vec → Vec → Vec
lessen i hh d e = upto (λ j e. set e j (at e j ⊖ hh ⊗ at d j)) 0 i e

-- the rank-two update of column j, from the diagonal down
unfoldable pub update_column : ℕ → ℕ → ℕ → Float → Float → Vec → Vec → Vec → Vec
update_column n i j f g d e v = upto (λ k v. put2 v n k j (at2 v n k j ⊖ (f ⊗ at e k ⊕ g ⊗ at d k))) j i v

-- and of all, with row i - 1 of v into d and row i of v to 0
unfoldable pub updates : ℕ → ℕ → Vec → Vec × Vec → Vec × Vec
updates n i e s =
    upto (λ j (v, d).
    let v = update_column n i j (at d j) (at e j) d e v in
    (put2 v n i j zero64, set d j (at2 v n (i - 1) j))) 0 i s

-- where scale is not 0: h, v, d and e
unfoldable pub reflect : ℕ → ℕ → Float → Vec × Vec × Vec → Float × Vec × Vec × Vec
reflect n i scale (v, d, e) =
    let (h, d, e) = generate i scale d e in
    let (v, e) = similarity n i d (v, e) in
    let (f, e) = over_h i h d e in
    let hh = f ⊘ (h ⊕ h) in
    let e = lessen i hh d e in
    let (v, d) = updates n i e (v, d) in
    (h, v, d, e)

-- where it is 0: the row is skipped, with h = 0
unfoldable pub skip : ℕ → ℕ → Vec × Vec × Vec → Float × Vec × Vec × Vec
skip n i (v, d, e) =
    let e = set e i (at d (i - 1)) in
    let (v, d) = skip_row n i (v, d) in
    (zero64, v, d, e)

-- row i skipped where its scale is 0, else reflected: h, v, d and e
unfoldable pub reduce : ℕ → ℕ → Float → Vec × Vec × Vec → Float × Vec × Vec × Vec
reduce n i scale s = cond (eq scale zero64) (skip n i s) (reflect n i scale s)

-- one i
unfoldable pub householder : ℕ → ℕ → Vec × Vec × Vec → Vec × Vec × Vec
householder n i (v, d, e) =
    let (h, v, d, e) = reduce n i (scale_of i d) (v, d, e) in
    (v, set d i h, e)

-- i = n - 1 down to 1
unfoldable pub reduction : ℕ → Vec × Vec × Vec → Vec × Vec × Vec
reduction n s = down (householder n) (n - 1) s

-- ---- the transformations accumulated, at one i; m is i + 1, the column in which the reduction left its vector

-- column m of v over h, into d
unfoldable pub column_over : ℕ → ℕ → Float → Vec → Vec → Vec
column_over n m h v d = upto (λ k d. set d k (at2 v n k m ⊘ h)) 0 m d

-- g: column m times column j, summed from +0.0
unfoldable pub column_dot : ℕ → ℕ → ℕ → Vec → Float
column_dot n m j v = upto (λ k g. g ⊕ at2 v n k m ⊗ at2 v n k j) 0 m zero64

-- column j less g times d
unfoldable pub take_off : ℕ → ℕ → ℕ → Float → Vec → Vec → Vec
take_off n m j g d v = upto (λ k v. put2 v n k j (at2 v n k j ⊖ g ⊗ at d k)) 0 m v

-- columns 0 .. m - 1, turned
unfoldable pub turn_columns : ℕ → ℕ → Vec → Vec → Vec
turn_columns n m d v = upto (λ j v. let g = column_dot n m j v in take_off n m j g d v) 0 m v

-- column m to 0
unfoldable pub clear_column : ℕ → ℕ → Vec → Vec
clear_column n m v = upto (λ k v. put2 v n k m zero64) 0 m v

-- applied where h is not 0
unfoldable pub apply : ℕ → ℕ → Float → Vec × Vec → Vec × Vec
apply n m h (v, d) =
    cond (ne h zero64)
    (let d = column_over n m h v d in (turn_columns n m d v, d))
    (v, d)

-- one i
unfoldable pub accumulate : ℕ → ℕ → Vec × Vec → Vec × Vec
accumulate n i (v, d) =
    let v = put2 (put2 v n (n - 1) i (at2 v n i i)) n i i one64 in
    let (v, d) = apply n (i + 1) (at d (i + 1)) (v, d) in
    (clear_column n (i + 1) v, d)

-- i = 0 up to n - 2
unfoldable pub accumulation : ℕ → Vec × Vec → Vec × Vec
accumulation n s = upto (accumulate n) 0 (n - 1) s

-- ---- the last row, and the whole

-- the last row of v into d
unfoldable pub copy_last : ℕ → Vec → Vec → Vec
copy_last n v d = upto (λ j d. set d j (at2 v n (n - 1) j)) 0 n d

-- the same, and the row to 0
unfoldable pub move_last : ℕ → Vec × Vec → Vec × Vec
move_last n s = upto (λ j (v, d). (put2 v n (n - 1) j zero64, set d j (at2 v n (n - 1) j))) 0 n s

-- n above 0
unfoldable pub tred2 : ℕ → Vec × Vec × Vec → Vec × Vec × Vec
tred2 n (v, d, e) =
    let (v, d, e) = reduction n (v, copy_last n v d, e) in
    let (v, d) = move_last n (accumulation n (v, d)) in
    (put2 v n (n - 1) (n - 1) one64, d, set e 0 zero64)
