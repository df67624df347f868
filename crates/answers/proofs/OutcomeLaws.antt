-- What checks say where they pass and where they refuse, of one call and of two that differ in old contents or in the limit. Laws only.
use Rattle.leaves.specs.declared.Bad.{Bad}
use Rattle.std.specs.Prelude.{◌≡◌, refl, Bool, true, false, cond, ℕ, ◌≤◌, length, Option, Some, None}
use Rattle.std.proofs.Common.{sym, ap, ◌∙◌, subst, true≢false, arith, eq-eqb, ne_eqb}
use Rattle.std.proofs.lemmas.Bool.{eqb-false}
use Rattle.grid.specs.Real.{Vec, zeros}
use Rattle.leaves.specs.Finite.{Finite}
use Rattle.answers.specs.Answers.{refused, passed, present, refusal7, unless_bad}
use Rattle.answers.specs.Early.{Early}
use Rattle.answers.specs.declared.Answer.{Answer}

-- ---- a part of a decomposition, by its flag

pub present_is : (flag count : ℕ) → (flag ≡ 0 → ⊥) → present flag count ≡ count
unfolding present
present_is flag count p = rw (ne_eqb flag 0 p)

pub present_none : (flag count : ℕ) → flag ≡ 0 → present flag count ≡ 0
unfolding present
present_none flag count p = rw (eq-eqb flag 0 p)

-- two outcomes that satisfy a promise, where it is one equation, are the same
pub one_outcome : {A : Type 0} (x o p : A) → o ≡ x → p ≡ x → o ≡ p
one_outcome x o p e f = e ∙ sym f

-- ---- a check that passes

pub none_seven : (b : Option Bad) → (refusal7 b).answer ≡ 0 → b ≡ None
none_seven (Some bad) h = absurd (omega arith)
none_seven None h = refl

-- ---- a check refuses with 6 at the most

pub refuse_few : (b : Bool) (k p : ℕ) (y : Answer) → k ≤ 6 → y.answer ≤ 6 → (cond b (refused k p) y).answer ≤ 6
refuse_few true k p y h q = h
refuse_few false k p y h q = q

pub unless_few : (b : Bool) (k p : ℕ) (y : Answer) → k ≤ 6 → y.answer ≤ 6 → (cond b y (refused k p)).answer ≤ 6
unless_few true k p y h q = q
unless_few false k p y h q = h

-- ---- old contents: o and p come after the check c; r and s leave the arrays as they were

-- K is a refusal that does
pub old_kept : (S : Type 0) (K : Answer → Type 0) (answer : S → Answer) (c : Answer) (o p r s : S) → (passed c ≡ false → K c) → (passed c ≡ true → o ≡ p) → answer r ≡ c
    → (K (answer (cond (passed c) o r)) → ⊥) → cond (passed c) o r ≡ cond (passed c) p s
old_kept S K answer c o p r s kept same e h = go (passed c) refl h
  where
    go : (b : Bool) → passed c ≡ b → (K (answer (cond b o r)) → ⊥) → cond b o r ≡ cond b p s
    go true t h = same t
    go false t h = absurd (h (subst K (sym e) (kept t)))

pub few_early : (c : Answer) → c.answer ≤ 6 → passed c ≡ false → Early c
few_early c h t = record { some = above (eqb-false c.answer 0 t); few = h }
  where
    above : (c.answer ≡ 0 → ⊥) → 1 ≤ c.answer
    above d = omega arith

pub old : (S : Type 0) (answer : S → Answer) (c : Answer) (o p r s : S) → c.answer ≤ 6 → (passed c ≡ true → o ≡ p) → answer r ≡ c → answer s ≡ c
    → (Early (answer (cond (passed c) o r)) → ⊥) → cond (passed c) o r ≡ cond (passed c) p s
old S answer c o p r s few same e f h = old_kept S Early answer c o p r s (few_early c few) same e h

-- refusal 7 and what comes after it
pub same_bad : (b : Option Bad) (x y : Vec) (o p : Answer × Vec) → length x ≡ length y → o ≡ p → unless_bad b x o ≡ unless_bad b y p
same_bad (Some bad) x y o p l e = ap (λ (n : ℕ). (refused 7 bad.index, zeros n)) l
same_bad None x y o p l e = e

-- ---- a higher limit: y is x, unless x is refused with 9

module _ {S : Type 0} (answer : S → ℕ) where
  pub record Settled (x y : S) : Type 0 where
    pub same : (answer x ≡ 9 → ⊥) → y ≡ x

  pub always : {x : S} → Settled x x
  always = record { same = λ h. refl }

  -- two choices by one test
  pub by_test : {x y s t : S} (b c : Bool) → b ≡ c → Settled x s → Settled y t → Settled (cond b x y) (cond c s t)
  by_test true true e p q = p
  by_test true false e p q = absurd (true≢false e)
  by_test false true e p q = absurd (true≢false (sym e))
  by_test false false e p q = q

-- ---- where the answer is 0, the array is finite and of that length

pub record Good (n : ℕ) (x : Answer × Vec) : Type 0 where
  pub finite : x.0.answer ≡ 0 → Finite x.1
  pub long : x.0.answer ≡ 0 → length x.1 ≡ n

pub refuses : (n : ℕ) (x : Answer) (v : Vec) → (x.answer ≡ 0 → ⊥) → Good n (x, v)
refuses n x v d = record { finite = λ e. absurd (d e); long = λ e. absurd (d e) }

pub unless_good : (n : ℕ) (b : Option Bad) (x : Vec) (o : Answer × Vec) → Good n o → Good n (unless_bad b x o)
unless_good n (Some bad) x o g = refuses n _ _ (λ z. omega arith)
unless_good n None x o g = g

pub check_good : (n : ℕ) (c : Answer) (x : Vec) (o : Answer × Vec) → Good n o → Good n (cond (passed c) o (c, x))
check_good n c x o g = go (passed c) refl
  where
    go : (b : Bool) → passed c ≡ b → Good n (cond b o (c, x))
    go true e = g
    go false e = refuses n c x (eqb-false c.answer 0 e)
