-- The steps of `tred2`'s loops by name, as laws cite them: each is what stands in its loop in `Tred2`, where nobody need believe it twice. Definitions only.
use Rattle.std.specs.Prelude.{ℕ, ◌-◌, Float, set}
use Rattle.grid.specs.Real.{Vec, zero64, at, ◌⊕◌, ◌⊖◌, ◌⊗◌, ◌⊘◌}
use Rattle.grid.specs.Cell.{at2, put2}
use Rattle.leaves.specs.Leaf.{magnitude}
use Rattle.eigen_tred2_definition.specs.Tred2.{similar_column, update_column, column_dot, take_off}

-- scale: the magnitudes of d[0] .. d[i - 1], summed
abbrev pub scale_step : Vec → ℕ → Float → Float
scale_step d k scale = scale ⊕ magnitude (at d k)

-- where scale is 0: row i - 1 of v into d, and row and column i of v to 0, at the first i places
abbrev pub skip_step : ℕ → ℕ → ℕ → Vec × Vec → Vec × Vec
skip_step n i j (v, d) = (put2 (put2 v n i j zero64) n j i zero64, set d j (at2 v n (i - 1) j))

-- d over scale, and h, the sum of its squares
abbrev pub over_scale_step : Float → ℕ → Float × Vec → Float × Vec
over_scale_step scale k (h, d) =
    let x = at d k ⊘ scale in
    (h ⊕ x ⊗ x, set d k x)

-- e[j] to 0
abbrev pub clear_step : ℕ → Vec → Vec
clear_step j e = set e j zero64

-- the similarity transformation, column j below the diagonal: g and e
abbrev pub similar_step : ℕ → ℕ → Float → Vec → Vec → ℕ → Float × Vec → Float × Vec
similar_step n j f v d k (g, e) =
    let x = at2 v n k j in
    (g ⊕ x ⊗ at d k, set e k (at e k ⊕ x ⊗ f))

-- and the whole of it
abbrev pub similarity_step : ℕ → ℕ → Vec → ℕ → Vec × Vec → Vec × Vec
similarity_step n i d j (v, e) =
    let f = at d j in
    let v = put2 v n j i f in
    let (g, e) = similar_column n i j f v d (at e j ⊕ at2 v n j j ⊗ f, e) in
    (v, set e j g)

-- e over h, and f, the sum of its products with d
abbrev pub over_hStep : Float → Vec → ℕ → Float × Vec → Float × Vec
over_hStep h d j (f, e) =
    let x = at e j ⊘ h in
    (f ⊕ x ⊗ at d j, set e j x)

-- e less hh times d
abbrev pub lessen_step : Float → Vec → ℕ → Vec → Vec
lessen_step hh d j e = set e j (at e j ⊖ hh ⊗ at d j)

-- the rank-two update of column j, from the diagonal down
abbrev pub update_step : ℕ → ℕ → Float → Float → Vec → Vec → ℕ → Vec → Vec
update_step n j f g d e k v = put2 v n k j (at2 v n k j ⊖ (f ⊗ at e k ⊕ g ⊗ at d k))

-- and of all, with row i - 1 of v into d and row i of v to 0
abbrev pub updates_step : ℕ → ℕ → Vec → ℕ → Vec × Vec → Vec × Vec
updates_step n i e j (v, d) =
    let v = update_column n i j (at d j) (at e j) d e v in
    (put2 v n i j zero64, set d j (at2 v n (i - 1) j))

-- column m of v over h, into d
abbrev pub column_over_step : ℕ → ℕ → Float → Vec → ℕ → Vec → Vec
column_over_step n m h v k d = set d k (at2 v n k m ⊘ h)

-- g: column m times column j
abbrev pub column_dot_step : ℕ → ℕ → ℕ → Vec → ℕ → Float → Float
column_dot_step n m j v k g = g ⊕ at2 v n k m ⊗ at2 v n k j

-- column j less g times d
abbrev pub take_step : ℕ → ℕ → Float → Vec → ℕ → Vec → Vec
take_step n j g d k v = put2 v n k j (at2 v n k j ⊖ g ⊗ at d k)

-- columns 0 .. m - 1, turned
abbrev pub turn_column_step : ℕ → ℕ → Vec → ℕ → Vec → Vec
turn_column_step n m d j v =
    let g = column_dot n m j v in
    take_off n m j g d v

-- column m to 0
abbrev pub clear_column_step : ℕ → ℕ → ℕ → Vec → Vec
clear_column_step n m k v = put2 v n k m zero64

-- the last row of v into d
abbrev pub copy_last_step : ℕ → Vec → ℕ → Vec → Vec
copy_last_step n v j d = set d j (at2 v n (n - 1) j)

-- the same, and the row to 0
abbrev pub move_step : ℕ → ℕ → Vec × Vec → Vec × Vec
move_step n j (v, d) = (put2 v n (n - 1) j zero64, set d j (at2 v n (n - 1) j))
