-- Document 000's own `tql2`: its loops over the same steps as ours, with no mark and no limit. Definitions only.
-- It may go on for ever, so it is a relation between what comes in and what comes out; `tql2_once` in `DocumentLaws` says that it has one result at most.
use Rattle.std.specs.Prelude.{◌≡◌, Bool, true, false, ℕ, zero, suc, ltb, Float, set}
use Rattle.grid.specs.Loop.{first}
use Rattle.grid.specs.Real.{Vec, zero64, at, ◌⊕◌}
use Rattle.leaves.specs.Leaf.{magnitude, larger}
use Rattle.eigen_tql2_pass.specs.Transform.{transformed}
use Rattle.eigen_tql2_pass.specs.Pass.{tiny}
use Rattle.eigen_tql2.specs.Tql2.{moved_up}
use Rattle.eigen_tql2.specs.Sort.{sorted}

-- what its loops carry
pub record Carried : Type 0 where
  pub f : Float
  pub tst1 : Float
  pub v : Vec
  pub d : Vec
  pub e : Vec

-- `let mut f = 0.0; let mut tst1 = 0.0;`, with e moved up
abbrev pub begun : ℕ → Vec × Vec × Vec → Carried
begun n (v, d, e) = record { f = zero64; tst1 = zero64; v = v; d = d; e = moved_up n e }

-- `tst1 = tst1.max(d[l].abs() + e[l].abs());`
abbrev pub grown : ℕ → Carried → Carried
grown l x = record { f = x.f; tst1 = larger x.tst1 (magnitude (at x.d l) ⊕ magnitude (at x.e l)); v = x.v; d = x.d; e = x.e }

-- `let mut m = l; while m < n { if e[m].abs() <= eps * tst1 { break; } m += 1; }`
abbrev pub searched : ℕ → ℕ → Carried → ℕ
searched n l x = first (tiny x.e x.tst1) l n

-- the loop's body, up to its convergence check
abbrev pub body : ℕ → ℕ → ℕ → ℕ → Carried → Carried
body n edition l m x =
    let (h, v, d, e) = transformed n edition l m (x.v, x.d, x.e) in
    record { f = x.f ⊕ h; tst1 = x.tst1; v = v; d = d; e = e }

-- `if e[l].abs() <= eps * tst1 { break; }`
abbrev pub settled : ℕ → Carried → Bool
settled l x = tiny x.e x.tst1 l

-- `d[l] += f; e[l] = 0.0;`
abbrev pub valued : ℕ → Carried → Carried
valued l x = record { f = x.f; tst1 = x.tst1; v = x.v; d = set x.d l (at x.d l ⊕ x.f); e = set x.e l zero64 }

-- `loop { .. if .. { break; } }`, entered at x and left at y
pub data Looped (n edition l m : ℕ) : Carried → Carried → Type 0 where
  once : {x : Carried} → settled l (body n edition l m x) ≡ true → Looped n edition l m x (body n edition l m x)
  again : {x y : Carried} → settled l (body n edition l m x) ≡ false → Looped n edition l m (body n edition l m x) y → Looped n edition l m x y

-- one l: `if m > l { loop .. }`, and its value
pub data Turned (n edition l : ℕ) (x : Carried) : Carried → Type 0 where
  at_once : ltb l (searched n l (grown l x)) ≡ false → Turned n edition l x (valued l (grown l x))
  by_passes : {y : Carried} → ltb l (searched n l (grown l x)) ≡ true → Looped n edition l (searched n l (grown l x)) (grown l x) y → Turned n edition l x (valued l y)

-- `for l in 0..n`, begun at x: y after so many turns
pub data Ran (n edition : ℕ) (x : Carried) : ℕ → Carried → Type 0 where
  none : Ran n edition x zero x
  more : {l : ℕ} {y z : Carried} → Ran n edition x l y → Turned n edition l y z → Ran n edition x (suc l) z

-- the whole, the sort included: v, d and e before and after
pub record Tql2 (n edition : ℕ) (x y : Vec × Vec × Vec) : Type 0 where
  pub last : Carried
  pub ran : Ran n edition (begun n x) n last
  pub values : let (v, d) = sorted n (last.v, last.d) in y ≡ (v, d, last.e)
