-- What is asked of `tred2`: of its reduction alone, since the accumulation computes nothing that carries the gain. Definitions only.
-- It follows the definitions of `Tred2` (eigen_tred2_definition), and names each operation where a turn at i does it.
use Rattle.std.specs.Prelude.{◌≡◌, false, ℕ, zero, suc, ◌+◌, ◌-◌, T, Float}
use Rattle.std.specs.Float.Ieee.{eq}
use Rattle.grid.specs.Real.{Vec, at, zero64, ◌⊕◌, ◌⊖◌, ◌⊗◌, ◌⊘◌}
use Rattle.grid.specs.Cell.{at2, put2}
use Rattle.root.specs.Root.{root}
use Rattle.leaves.specs.Leaf.{magnitude}
use Rattle.eigen_tred2_definition.specs.Tred2.{scale_of, over_scale, against, generate, similarity, over_h, lessen, householder, copy_last}
use Rattle.eigen_tred2_definition.specs.Tred2Steps.{scale_step, similar_step, similarity_step, over_hStep, lessen_step, update_step, updates_step}
use Rattle.svd_gain_theorems.specs.Scale.{fine, Product, Quotient}
use Rattle.svd_gain_theorems.specs.Along.{Along}
use Rattle.gain_path_theorems.specs.Numbers.{Pair}

-- ---- the Householder vector, `generate`: scale times g, which becomes e at i

abbrev pub generate_g : ℕ → Float → Vec → Float
generate_g i scale d =
    let x = over_scale i scale d in
    against (at x.1 (i - 1)) (root x.0)

-- ---- the similarity transformation, `similarity`

-- row k of column j, `similar_step`
pub record SimilarFine (n j : ℕ) (f : Float) (v d : Vec) (k : ℕ) (x : Float × Vec) : Type 0 where
  pub xd : Product (at2 v n k j) (at d k)
  pub g : T (fine (x.0 ⊕ at2 v n k j ⊗ at d k))
  pub xf : Product (at2 v n k j) f
  pub e : T (fine (at x.1 k ⊕ at2 v n k j ⊗ f))

-- column j, `similarity_step`
pub record SimilarityFine (n i : ℕ) (d : Vec) (j : ℕ) (x : Vec × Vec) : Type 0 where
  pub first : Product (at2 (put2 x.0 n j i (at d j)) n j j) (at d j)
  pub sum : T (fine (at x.1 j ⊕ at2 (put2 x.0 n j i (at d j)) n j j ⊗ at d j))
  pub rows : Along (similar_step n j (at d j) (put2 x.0 n j i (at d j)) d) (SimilarFine n j (at d j) (put2 x.0 n j i (at d j)) d) (j + 1) i
      (at x.1 j ⊕ at2 (put2 x.0 n j i (at d j)) n j j ⊗ at d j, x.1)

-- ---- e over h, `over_hStep`, and e less hh times d, `lessen_step`

pub record OverHFine (h : Float) (d : Vec) (j : ℕ) (x : Float × Vec) : Type 0 where
  pub over : Quotient (at x.1 j) h
  pub xd : Product (at x.1 j ⊘ h) (at d j)
  pub f : T (fine (x.0 ⊕ at x.1 j ⊘ h ⊗ at d j))

pub record LessenFine (hh : Float) (d : Vec) (j : ℕ) (e : Vec) : Type 0 where
  pub product : Product hh (at d j)
  pub less : T (fine (at e j ⊖ hh ⊗ at d j))

-- ---- the rank-two update of column j at row k, `update_step`

pub record UpdateFine (n j : ℕ) (f g : Float) (d e : Vec) (k : ℕ) (v : Vec) : Type 0 where
  pub fe : Product f (at e k)
  pub gd : Product g (at d k)
  pub sum : T (fine (f ⊗ at e k ⊕ g ⊗ at d k))
  pub less : T (fine (at2 v n k j ⊖ (f ⊗ at e k ⊕ g ⊗ at d k)))

abbrev pub UpdatesFine : ℕ → ℕ → Vec → ℕ → Vec × Vec → Type 0
UpdatesFine n i e j x = Along (update_step n j (at x.1 j) (at e j) x.1 e) (UpdateFine n j (at x.1 j) (at e j) x.1 e) j i x.0

-- ---- one turn at i, `reflect`, with the states it goes through

abbrev pub made : ℕ → Float → Vec × Vec × Vec → Float × Vec × Vec
made i scale x = generate i scale x.1 x.2

abbrev pub similar : ℕ → ℕ → Float → Vec × Vec × Vec → Vec × Vec
similar n i scale x = similarity n i (made i scale x).1 (x.0, (made i scale x).2)

abbrev pub divided : ℕ → ℕ → Float → Vec × Vec × Vec → Float × Vec
divided n i scale x = over_h i (made i scale x).0 (made i scale x).1 (similar n i scale x).1

abbrev pub two_h : ℕ → Float → Vec × Vec × Vec → Float
two_h i scale x = (made i scale x).0 ⊕ (made i scale x).0

abbrev pub lessened : ℕ → ℕ → Float → Vec × Vec × Vec → Vec
lessened n i scale x = lessen i ((divided n i scale x).0 ⊘ two_h i scale x) (made i scale x).1 (divided n i scale x).1

pub record ReflectFine (n i : ℕ) (scale : Float) (x : Vec × Vec × Vec) : Type 0 where
  pub e : Product scale (generate_g i scale x.1)
  pub similarity : Along (similarity_step n i (made i scale x).1) (SimilarityFine n i (made i scale x).1) 0 i (x.0, (made i scale x).2)
  pub over_h : Along (over_hStep (made i scale x).0 (made i scale x).1) (OverHFine (made i scale x).0 (made i scale x).1) 0 i (zero64, (similar n i scale x).1)
  pub hh : Quotient (divided n i scale x).0 (two_h i scale x)
  pub lessen : Along (lessen_step ((divided n i scale x).0 ⊘ two_h i scale x) (made i scale x).1) (LessenFine ((divided n i scale x).0 ⊘ two_h i scale x) (made i scale x).1) 0 i (divided n i scale x).1
  pub updates : Along (updates_step n i (lessened n i scale x)) (UpdatesFine n i (lessened n i scale x)) 0 i ((similar n i scale x).0, (made i scale x).1)

-- the turn, `householder`: scale, and where it is not zero the reflection
pub record TurnFine (n i : ℕ) (x : Vec × Vec × Vec) : Type 0 where
  pub scale : Along (scale_step x.1) (λ k s. T (fine (s ⊕ magnitude (at x.1 k)))) 0 i zero64
  pub reflect : eq (scale_of i x.1) zero64 ≡ false → ReflectFine n i (scale_of i x.1) x

-- each turn from n - 1 down to 1
unfoldable pub Downs : (ℕ → ℕ → Vec × Vec × Vec → Type 0) → ℕ → ℕ → Vec × Vec × Vec → Type 0
Downs P n zero x = Unit
Downs P n (suc i) x = P n (suc i) x × Downs P n i (householder n (suc i) x)

abbrev pub Tred2Fine : ℕ → Vec × Vec × Vec → Type 0
Tred2Fine n x = Downs TurnFine n (n - 1) (x.0, copy_last n x.0 x.1, x.2)

-- what is said of two reductions: v is the same, and d and e are multiplied by 2 ^ k, doubles in both
pub record Reduced (k : ℕ) (x x' : Vec × Vec × Vec) : Type 0 where
  pub v : x'.0 ≡ x.0
  pub d : Pair k x.1 x'.1
  pub e : Pair k x.2 x'.2
