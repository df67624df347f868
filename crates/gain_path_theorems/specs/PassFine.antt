-- What is asked of one QL pass of `tql2`. Definitions only.
-- It follows the definitions of the pass (`Transform` and `Pass` of eigen_tql2_pass), and names each operation where the pass does it: each number that carries the gain is zero, or
-- finite and above 2 ^ -1022 in magnitude (`fine`), and a product, a quotient or a hypot is zero only where it must be (`Product`, `Quotient`, `HypotFine`). Not asked, since it
-- carries no power: the shift's p and q, c and s, and the turning of v.
use Rattle.std.specs.Prelude.{ℕ, zero, suc, ◌+◌, ◌-◌, T, Float}
use Rattle.std.specs.Float.Ieee.{neg}
use Rattle.grid.specs.Real.{Vec, at, one64, two64, epsilon, ◌⊕◌, ◌⊖◌, ◌⊗◌, ◌⊘◌}
use Rattle.hypot.specs.Edition.{pythag}
use Rattle.eigen_tql2_pass.specs.declared.ql_transformation.Spin.{Spin}
use Rattle.eigen_tql2_pass.specs.declared.Run.{Run}
use Rattle.eigen_tql2_pass.specs.Transform.{signed, shift, lessened, spin, spins, still, transformed}
use Rattle.eigen_tql2_pass.specs.TransformSteps.{less_step}
use Rattle.svd_gain_theorems.specs.Scale.{fine, Product, Quotient}
use Rattle.svd_gain_theorems.specs.Along.{Along}
use Rattle.gain_path_theorems.specs.HypotFine.{HypotFine}

-- a predicate along a loop that goes down, `fall`: it holds of the state before each turn
module _ {S : Type 0} where
  unfoldable pub Drops : (ℕ → S → S) → (ℕ → S → Type 0) → ℕ → ℕ → S → Type 0
  Drops f P a zero s = Unit
  Drops f P a (suc k) s = P (a + k) s × Drops f P a k (f (a + k) s)

  abbrev pub Falls : (ℕ → S → S) → (ℕ → S → Type 0) → ℕ → ℕ → S → Type 0
  Falls f P a b s = Drops f P a (b - a) s

-- ---- the implicit shift at l, `shift`

-- its q
abbrev pub shift_q : ℕ → ℕ → Vec → Vec → Float
shift_q edition l d e =
    let p = (at d (l + 1) ⊖ at d l) ⊘ (two64 ⊗ at e l) in
    p ⊕ signed p (pythag edition p one64)

pub record ShiftFine (edition l : ℕ) (d e : Vec) : Type 0 where
  pub difference : T (fine (at d (l + 1) ⊖ at d l))
  pub twice : Product two64 (at e l)
  pub over : Quotient (at e l) (shift_q edition l d e)
  pub less : T (fine (at d l ⊖ at e l ⊘ shift_q edition l d e))
  pub product : Product (at e l) (shift_q edition l d e)

-- ---- one turn at i, `spin`: q goes before it, di and ei are d and e at i

abbrev pub spin_r : ℕ → Spin → Float → Float
spin_r edition q ei = pythag edition q.p ei

abbrev pub spin_s : ℕ → Spin → Float → Float
spin_s edition q ei = ei ⊘ spin_r edition q ei

abbrev pub spin_c : ℕ → Spin → Float → Float
spin_c edition q ei = q.p ⊘ spin_r edition q ei

-- what s is multiplied by for d
abbrev pub spin_sum : ℕ → Spin → Float → Float → Float
spin_sum edition q di ei = spin_c edition q ei ⊗ (q.c ⊗ ei) ⊕ spin_s edition q ei ⊗ di

pub record SpinFine (edition : ℕ) (q : Spin) (di ei : Float) : Type 0 where
  -- g, h and r
  pub g : Product q.c ei
  pub h : Product q.c q.p
  pub r : HypotFine edition q.p ei
  -- p
  pub cd : Product (spin_c edition q ei) di
  pub sg : Product (spin_s edition q ei) (q.c ⊗ ei)
  pub p : T (fine (spin_c edition q ei ⊗ di ⊖ spin_s edition q ei ⊗ (q.c ⊗ ei)))
  -- d at i + 1
  pub cg : Product (spin_c edition q ei) (q.c ⊗ ei)
  pub sd : Product (spin_s edition q ei) di
  pub sum : T (fine (spin_sum edition q di ei))
  pub ss : Product (spin_s edition q ei) (spin_sum edition q di ei)
  pub d : T (fine (q.c ⊗ q.p ⊕ spin_s edition q ei ⊗ spin_sum edition q di ei))
  -- e at i + 1
  pub e : Product q.s (spin_r edition q ei)

abbrev pub SpinAt : ℕ → ℕ → Spin × Vec × Vec × Vec → Type 0
SpinAt edition i x = SpinFine edition x.0 (at x.2 i) (at x.3 i)

-- ---- what the turns leave at l, `landed`

abbrev pub landed_p : Spin → Float → Float → Float → Float
landed_p q el1 dl1 el = neg q.s ⊗ q.s2 ⊗ q.c3 ⊗ el1 ⊗ el ⊘ dl1

pub record LandFine (q : Spin) (el1 dl1 el : Float) : Type 0 where
  pub first : Product (neg q.s ⊗ q.s2 ⊗ q.c3) el1
  pub second : Product (neg q.s ⊗ q.s2 ⊗ q.c3 ⊗ el1) el
  pub over : Quotient (neg q.s ⊗ q.s2 ⊗ q.c3 ⊗ el1 ⊗ el) dl1
  pub d : Product q.c (landed_p q el1 dl1 el)
  pub e : Product q.s (landed_p q el1 dl1 el)

-- ---- the QL transformation, `transformed`

-- h and d of the shift, and d less h
abbrev pub shift_h : ℕ → ℕ → Vec → Vec → Float
shift_h edition l d e = (shift edition l d e).0

abbrev pub shifted : ℕ → ℕ → Vec → Vec → Vec
shifted edition l d e = (shift edition l d e).1

abbrev pub leveled : ℕ → ℕ → ℕ → Vec → Vec → Vec
leveled n edition l d e = lessened n l (shift_h edition l d e) (shifted edition l d e)

-- before the first turn, and after the last
abbrev pub turning : ℕ → ℕ → ℕ → ℕ → Vec × Vec × Vec → Spin × Vec × Vec × Vec
turning n edition l m x =
    let d = leveled n edition l x.1 x.2 in
    (still (at d m), x.0, d, x.2)

abbrev pub turned : ℕ → ℕ → ℕ → ℕ → Vec × Vec × Vec → Spin × Vec × Vec × Vec
turned n edition l m x = spins n edition l m (turning n edition l m x)

pub record TransformFine (n edition l m : ℕ) (x : Vec × Vec × Vec) : Type 0 where
  pub begin : ShiftFine edition l x.1 x.2
  pub less : Along (less_step (shift_h edition l x.1 x.2)) (λ i d. T (fine (at d i ⊖ shift_h edition l x.1 x.2))) (l + 2) n (shifted edition l x.1 x.2)
  pub turns : Falls (spin n edition) (SpinAt edition) l m (turning n edition l m x)
  pub land : LandFine (turned n edition l m x).0 (at x.2 (l + 1)) (at (shifted edition l x.1 x.2) (l + 1)) (at (turned n edition l m x).3 l)

-- ---- the pass, `pass`: f, and the bound that e is tested against

pub record PassFine (n edition : ℕ) (x : Run × Vec × Vec × Vec) : Type 0 where
  pub transform : TransformFine n edition x.0.l x.0.m (x.1, x.2, x.3)
  pub f : T (fine (x.0.f ⊕ (transformed n edition x.0.l x.0.m (x.1, x.2, x.3)).0))
  pub bound : Product epsilon x.0.tst1
