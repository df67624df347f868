-- A loop whose turns change nothing from some point on, and what the checks of `qr_q` leave.
use mathlib.Core.Path.{◌≡◌, refl, sym, ap, ◌∙◌, subst}
use mathlib.Core.Bool.{Bool, true, false, cond, ◌||◌}
use Prim.Native.Nat.{ℕ, zero, suc, ◌+◌, ◌-◌, ◌*◌, ◌≤◌}
use native.Mathlib.Omega.{arith}
use borrow.Author.Tests.{ltb-false, eqb-true}
use lib.Dec.{ltb, eqb}
use Rattle.grid.specs.Loop.{upto}
use Rattle.grid.specs.LoopLaws.{next}
use Rattle.answers.specs.Answers.{refused, done}
use Rattle.answers.specs.declared.Answer.{Answer}
use Rattle.answers.specs.Checks.{lengths}
use Rattle.qr_q.specs.QrQ.{checks}

module _ {S : Type 0} (f : ℕ → S → S) (a : ℕ) (s : S) {t : S} (kept : (j : ℕ) → f j t ≡ t) where
  -- so many turns later
  later : (d i : ℕ) → a ≤ i → t ≡ upto f a i s → t ≡ upto f a (i + d) s
  later zero i h e = subst (λ (k : ℕ). t ≡ upto f a k s) (omega arith) e
  later (suc d) i h e = subst (λ (k : ℕ). t ≡ upto f a k s) (omega arith) (next f a (i + d) s (omega arith) (later d i h e) (sym (kept (i + d))))

  pub stays : (i b : ℕ) → a ≤ i → i ≤ b → t ≡ upto f a i s → t ≡ upto f a b s
  stays i b h l e = subst (λ (k : ℕ). t ≡ upto f a k s) (omega arith) (later (b - i) i h e)

-- sizes and lengths are right where the checks refuse nothing
pub sized : (m k a x : ℕ) {r : Answer} → r ≡ checks m k a x → r.answer ≡ 0 → (m ≤ 256) × (a ≡ m * k) × (x ≡ m * k)
unfolding checks lengths
sized m k a x e h = go (ltb 256 m) refl (ltb 256 k) (eqb a (m * k)) refl (eqb x (m * k)) refl (ap (λ (b : Answer). b.answer) (sym e) ∙ h)
  where
    go : (p : Bool) → ltb 256 m ≡ p → (q : Bool) (b : Bool) → eqb a (m * k) ≡ b → (c : Bool) → eqb x (m * k) ≡ c
        → (cond (p || q) (refused 1 0) (cond b (cond c (done 0) (refused 6 1)) (refused 6 0))).answer ≡ 0 → (m ≤ 256) × (a ≡ m * k) × (x ≡ m * k)
    go false e false true f true g h = (ltb-false 256 m e, eqb-true a (m * k) f, eqb-true x (m * k) g)
    go true e q b f c g h = absurd (omega arith)
    go false e true b f c g h = absurd (omega arith)
    go false e false false f c g h = absurd (omega arith)
    go false e false true f false g h = absurd (omega arith)
