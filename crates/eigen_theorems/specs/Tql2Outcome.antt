-- The scope's `tql2` by document 000's own loops: each pass leaves d and e finite, at most `limit` passes run at each l, and so many run in all; or where and why it stops. Definitions only.
-- Nothing here speaks of the record that a run carries.
use Rattle.std.specs.Prelude.{◌≡◌, true, false, ◌++◌, ℕ, zero, suc, ◌+◌, ◌<◌, ltb, length}
use Rattle.grid.specs.Real.{Vec, at}
use Rattle.leaves.specs.Scan.{by_rows}
use Rattle.leaves.specs.Finite.{Finite, First}
use Rattle.answers.specs.Answers.{answered, done}
use Rattle.answers.specs.declared.Answer.{Answer}
use Rattle.eigen_tql2.specs.Sort.{sorted}
use Rattle.eigen_theorems.specs.Tql2Document.{Carried, begun, grown, searched, body, settled, valued}

-- d and e are finite: what mark 1 looks at
pub record Sound (x : Carried) : Type 0 where
  pub values : Finite x.d
  pub beside : Finite x.e

-- number i of a list is the first of it that is not finite, and of class b: 8 infinite, 10 NaN
abbrev pub FirstIn : Vec → ℕ → ℕ → Type 0
FirstIn x b i = First (at x) (length x) i b

-- the list that mark 1 looks at: d, then e
abbrev pub list1 : Carried → Vec
list1 x = x.d ++ x.e

-- how the passes at one l end: settled, or stopped by mark 1 with the class and the index of what it saw, or the limit used up
pub data End : Type 0 where
  here : End
  bad : ℕ → ℕ → End
  used : End

-- `loop { .. }` at l and m with so many passes left: entered at x, left at y after so many passes
pub data Looped (n edition l m : ℕ) : ℕ → ℕ → Carried → End → Carried → Type 0 where
  no_more : {x : Carried} → Looped n edition l m zero zero x used x
  stop : {k b i : ℕ} {x : Carried} → FirstIn (list1 (body n edition l m x)) b i → Looped n edition l m (suc k) 1 x (bad b i) (body n edition l m x)
  once : {k : ℕ} {x : Carried} → Sound (body n edition l m x) → settled l (body n edition l m x) ≡ true → Looped n edition l m (suc k) 1 x here (body n edition l m x)
  again : {k c : ℕ} {e : End} {x y : Carried} → Sound (body n edition l m x) → settled l (body n edition l m x) ≡ false
      → Looped n edition l m k c (body n edition l m x) e y → Looped n edition l m (suc k) (suc c) x e y

-- one l: `if m > l { loop .. }`, and its value where it settles
pub data Turned (n limit edition l : ℕ) (x : Carried) : ℕ → End → Carried → Type 0 where
  at_once : ltb l (searched n l (grown l x)) ≡ false → Turned n limit edition l x zero here (valued l (grown l x))
  by_passes : {c : ℕ} {y : Carried} → ltb l (searched n l (grown l x)) ≡ true
      → Looped n edition l (searched n l (grown l x)) limit c (grown l x) here y → Turned n limit edition l x c here (valued l y)
  by_mark : {c b i : ℕ} {y : Carried} → ltb l (searched n l (grown l x)) ≡ true
      → Looped n edition l (searched n l (grown l x)) limit c (grown l x) (bad b i) y → Turned n limit edition l x c (bad b i) y
  by_limit : {c : ℕ} {y : Carried} → ltb l (searched n l (grown l x)) ≡ true
      → Looped n edition l (searched n l (grown l x)) limit c (grown l x) used y → Turned n limit edition l x c used y

-- `for l in 0..n`, begun at x: y after so many turns that settled, and so many passes
pub data Ran (n limit edition : ℕ) (x : Carried) : ℕ → ℕ → Carried → Type 0 where
  none : Ran n limit edition x zero zero x
  more : {l c k : ℕ} {y z : Carried} → Ran n limit edition x l c y → Turned n limit edition l y k here z → Ran n limit edition x (suc l) (c + k) z

-- the list that mark 2 looks at: d, then v row by row
abbrev pub list2 : ℕ → Carried → Vec
list2 n x = x.d ++ by_rows n x.v

-- d and v are finite: what mark 2 looks at
pub record Whole (x : Carried) : Type 0 where
  pub values : Finite x.d
  pub vectors : Finite x.v

-- the outcome of tql2 on (v, d, e): done after c passes, or stopped by mark 2, by mark 1, by the limit
pub data RunGives (n limit edition : ℕ) (x : Vec × Vec × Vec) : Answer × Vec × Vec × Vec → Type 0 where
  well : {c : ℕ} {y : Carried} → Ran n limit edition (begun n x) n c y → Whole y
      → RunGives n limit edition x (done c, (sorted n (y.v, y.d)).0, (sorted n (y.v, y.d)).1, y.e)
  at_mark2 : {c b i : ℕ} {y : Carried} → Ran n limit edition (begun n x) n c y → FirstIn (list2 n y) b i → RunGives n limit edition x (answered b 2 i c, y.v, y.d, y.e)
  at_mark1 : {l c k b i : ℕ} {y z : Carried} → l < n → Ran n limit edition (begun n x) l c y → Turned n limit edition l y k (bad b i) z
      → RunGives n limit edition x (answered b 1 i (c + k), z.v, z.d, z.e)
  at_limit : {l c k : ℕ} {y z : Carried} → l < n → Ran n limit edition (begun n x) l c y → Turned n limit edition l y k used z
      → RunGives n limit edition x (answered 9 l 0 (c + k), z.v, z.d, z.e)
