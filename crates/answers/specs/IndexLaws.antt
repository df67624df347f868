-- The checks that several calls share leave the index 0. Laws only.
use Rattle.leaves.specs.declared.Bad.{Bad}
use Rattle.std.specs.Prelude.{◌≡◌, refl, Bool, true, false, cond, ℕ, ◌≤◌, Option, Some, None}
use Rattle.std.proofs.Common.{⊎_elim, arith}
use Rattle.grid.specs.Real.{Vec}
use Rattle.answers.specs.Answers.{refused, passed, refusal7, unless_bad}
use Rattle.answers.specs.Index.{AtMark, Indexed}
use Rattle.answers.specs.declared.Answer.{Answer}

-- ---- the checks

pub refuse_index : (b : Bool) (k p : ℕ) (y : Answer) → y.index ≡ 0 → (cond b (refused k p) y).index ≡ 0
refuse_index true k p y h = refl
refuse_index false k p y h = h

pub unless_index : (b : Bool) (k p : ℕ) (y : Answer) → y.index ≡ 0 → (cond b y (refused k p)).index ≡ 0
unless_index true k p y h = h
unless_index false k p y h = refl

pub refusal7_index : (b : Option Bad) → (refusal7 b).index ≡ 0
refusal7_index (Some bad) = refl
refusal7_index None = refl

pub refusal7_most : (b : Option Bad) → (refusal7 b).answer ≤ 7
refusal7_most (Some bad) = omega arith
refusal7_most None = omega arith

-- ---- what the index says after them

pub no_mark : (x : Answer) → x.answer ≤ 7 → AtMark x → ⊥
no_mark x h = ⊎_elim (λ e. omega arith) (λ e. omega arith)

module _ (Points : Answer → Type 0) where
  pub none : (x : Answer) → (AtMark x → ⊥) → x.index ≡ 0 → Indexed Points x
  none x d z = record { points = λ m. absurd (d m); zero = λ e. z }

  pub below : (x : Answer) → x.answer ≤ 7 → x.index ≡ 0 → Indexed Points x
  below x h z = none x (no_mark x h) z

  pub pointed : (x : Answer) → AtMark x → Points x → Indexed Points x
  pointed x m p = record { points = λ n. p; zero = λ d. absurd (d m) }

  pub unless_indexed : (b : Option Bad) (x : Vec) (o : Answer × Vec) → Indexed Points o.0 → Indexed Points (unless_bad b x o).0
  unless_indexed (Some bad) x o i = below _ (omega arith) refl
  unless_indexed None x o i = i

  pub by_unmarked : {S : Type 0} (answer : S → Answer) (c : Answer) (o r : S) → answer r ≡ c → (AtMark c → ⊥) → c.index ≡ 0 → Indexed Points (answer o) → Indexed Points (answer (cond (passed c) o r))
  by_unmarked answer c o r e d z i = go (passed c)
    where
      go : (b : Bool) → Indexed Points (answer (cond b o r))
      go true = i
      go false = rw e (none c d z)

  pub by_check : {S : Type 0} (answer : S → Answer) (c : Answer) (o r : S) → answer r ≡ c → c.answer ≤ 7 → c.index ≡ 0 → Indexed Points (answer o) → Indexed Points (answer (cond (passed c) o r))
  by_check answer c o r e h z i = by_unmarked answer c o r e (no_mark c h) z i
