-- The QL transformation of one pass of document 000's `tql2`, operation for operation. Definitions only.
-- The hypot in it is that of the edition. v is the n by n matrix, column by column. What a step changes comes last, in the order v, d, e, and in front of them the record or number that goes with it.
use Rattle.std.specs.Prelude.{cond, ℕ, ◌+◌, Float, set}
use Rattle.std.specs.Float.Ieee.{neg, lt}
use Rattle.grid.specs.Loop.{upto, fall}
use Rattle.grid.specs.Real.{Vec, zero64, one64, two64, at, ◌⊕◌, ◌⊖◌, ◌⊗◌, ◌⊘◌}
use Rattle.grid.specs.Cell.{at2, put2}
use Rattle.hypot.specs.Edition.{pythag}
use Rattle.eigen_tql2_pass.specs.declared.ql_transformation.Spin.{Spin}

-- ---- the implicit shift

-- r, or -r where p is below 0
unfoldable pub signed : Float → Float → Float
signed p r = cond (lt p zero64) (neg r) r

-- the shift at l: h and d
unfoldable pub shift : ℕ → ℕ → Vec → Vec → Float × Vec
shift edition l d e =
    let g = at d l in
    let el = at e l in
    let p = (at d (l + 1) ⊖ g) ⊘ (two64 ⊗ el) in
    let q = p ⊕ signed p (pythag edition p one64) in
    let dl = el ⊘ q in
    (g ⊖ dl, set (set d l dl) (l + 1) (el ⊗ q))

-- d less h, from l + 2 on
unfoldable pub lessened : ℕ → ℕ → Float → Vec → Vec
lessened n l h d = upto (λ i d. set d i (at d i ⊖ h)) (l + 2) n d

-- ---- the QL transformation

-- columns i and i + 1 of v, turned by c and s
unfoldable pub rotated : ℕ → ℕ → Float → Float → Vec → Vec
rotated n i c s v =
    upto (λ k v.
    let g = at2 v n k i in
    let h = at2 v n k (i + 1) in
    put2 (put2 v n k (i + 1) (s ⊗ g ⊕ c ⊗ h)) n k i (c ⊗ g ⊖ s ⊗ h)) 0 n v

-- one turn, at i
unfoldable pub spin : ℕ → ℕ → ℕ → Spin × Vec × Vec × Vec → Spin × Vec × Vec × Vec
spin n edition i (q, v, d, e) =
    let di = at d i in
    let ei = at e i in
    let g = q.c ⊗ ei in
    let h = q.c ⊗ q.p in
    let r = pythag edition q.p ei in
    let s = ei ⊘ r in
    let c = q.p ⊘ r in
    let p = c ⊗ di ⊖ s ⊗ g in (
      record { c = c; c2 = q.c; c3 = q.c2; s = s; s2 = q.s; p = p },
      rotated n i c s v,
      set d (i + 1) (h ⊕ s ⊗ (c ⊗ g ⊕ s ⊗ di)),
      set e (i + 1) (q.s ⊗ r),
    )

-- `spin` at i = m - 1 down to l
unfoldable pub spins : ℕ → ℕ → ℕ → ℕ → Spin × Vec × Vec × Vec → Spin × Vec × Vec × Vec
spins n edition l m x = fall (spin n edition) l m x

-- what the first turn starts from
abbrev pub still : Float → Spin
still p = record { c = one64; c2 = one64; c3 = one64; s = zero64; s2 = zero64; p = p }

-- what the turns leave at l
unfoldable pub landed : ℕ → Spin → Float → Float → Vec × Vec → Vec × Vec
landed l q el1 dl1 (d, e) =
    let p = neg q.s ⊗ q.s2 ⊗ q.c3 ⊗ el1 ⊗ at e l ⊘ dl1 in
    (set d l (q.c ⊗ p), set e l (q.s ⊗ p))

-- the body of document 000's loop at l and m, which adds h to f: h, v, d and e
unfoldable pub transformed : ℕ → ℕ → ℕ → ℕ → Vec × Vec × Vec → Float × Vec × Vec × Vec
transformed n edition l m (v, d, e) =
    let (h, d) = shift edition l d e in
    let dl1 = at d (l + 1) in
    let d = lessened n l h d in
    let el1 = at e (l + 1) in
    let (q, v, d, e) = spins n edition l m (still (at d m), v, d, e) in
    let (d, e) = landed l q el1 dl1 (d, e) in
    (h, v, d, e)
