-- Two columns of the similarity transformation walked together; `proofs/similarity/Together.antt` says that this is two steps of document 000's. Laws only.
-- What stands here is what the code does on the way; no public promise cites it.
use Rattle.std.specs.Prelude.{ℕ, ◌+◌, set}
use Rattle.grid.specs.Loop.{upto}
use Rattle.grid.specs.Real.{Vec, at, ◌⊕◌, ◌⊗◌}
use Rattle.grid.specs.Cell.{at2, put2}
use Rattle.eigen_tred2.specs.declared.column_pairs.Pair.{Pair}

-- both sums down to row j + 1: of column j the diagonal and that row; of column j + 1 the diagonal, and before it column j's share in e
unfoldable pub sums : ℕ → ℕ → Pair → Vec → Vec → Pair
sums n j f v e =
    let x = at2 v n (j + 1) j in
    record { a = at e j ⊕ at2 v n j j ⊗ f.a ⊕ x ⊗ f.b; b = at e (j + 1) ⊕ x ⊗ f.a ⊕ at2 v n (j + 1) (j + 1) ⊗ f.b }

-- row k of columns j and j + 1: both sums and e
abbrev pub two_step : ℕ → ℕ → Pair → Vec → Vec → ℕ → Pair × Vec → Pair × Vec
two_step n j f v d k (g, e) =
    let x = at2 v n k j in
    let y = at2 v n k (j + 1) in
    (record { a = g.a ⊕ x ⊗ at d k; b = g.b ⊕ y ⊗ at d k }, set e k (at e k ⊕ x ⊗ f.a ⊕ y ⊗ f.b))

-- all rows from j + 2 on
unfoldable pub two_columns : ℕ → ℕ → ℕ → Pair → Vec → Vec → Pair × Vec → Pair × Vec
two_columns n i j f v d s = upto (two_step n j f v d) (j + 2) i s

-- and the whole
unfoldable pub pair_step : ℕ → ℕ → Vec → ℕ → Vec × Vec → Vec × Vec
pair_step n i d j (v, e) =
    let f : Pair = record { a = at d j; b = at d (j + 1) } in
    let v = put2 (put2 v n j i f.a) n (j + 1) i f.b in
    let (g, e) = two_columns n i j f v d (sums n j f v e, e) in
    (v, set (set e j g.a) (j + 1) g.b)
