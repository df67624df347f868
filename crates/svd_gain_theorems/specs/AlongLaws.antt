-- Two loops side by side, each with its own predicate along it. Laws only.
use Rattle.std.specs.Prelude.{◌≡◌, Bool, cond}
use Rattle.std.proofs.Math.Path.{refl}
use Rattle.std.proofs.Common.{sym, ◌∙◌, subst}
use Rattle.std.proofs.Math.Bool.{true, false}
use Prim.Native.Nat.{ℕ, zero, suc, ◌+◌, ◌≤◌, ◌<◌}
use Rattle.grid.specs.Loop.{upto, rounds}
use Rattle.grid.specs.LoopLaws.{upto_both, start, more}
use Rattle.svd_gain_theorems.specs.Along.{Along, Rounds}

module _ {S : Type 0} where
  pub along_both : (R : ℕ → S → S → Type 0) (f g : ℕ → S → S) (P Q : ℕ → S → Type 0) (a b : ℕ) (s t : S) → a ≤ b → Along f P a b s → Along g Q a b t
      → ((j : ℕ) (x y : S) → a ≤ j → j < b → P j x → Q j y → R j x y → R (j + 1) (f j x) (g j y)) → R a s t → R b (upto f a b s) (upto g a b t)
  along_both R f g P Q a b s t l p q h r =
      (upto_both (λ j x y. R j x y × (x ≡ upto f a j s) × (y ≡ upto g a j t)) f g a b s t l
      (λ j x y c d e.
      (h j x y c d (subst (P j) (sym e.1) (p j c d)) (subst (Q j) (sym e.2) (q j c d)) e.0, more f a j s c e.1, more g a j t c e.2))
      (r, start f a s, start g a t)).0

  pub rounds_both : (R : S → S → Type 0) (f : S → S) (p : S → Bool) (P : S → Type 0) (k : ℕ) (s t : S) → Rounds f p P k s → Rounds f p P k t
      → ((x y : S) → P x → P y → R x y → R (f x) (f y)) → ((x y : S) → R x y → p y ≡ p x) → R s t → R (rounds f p k s) (rounds f p k t)
  unfolding rounds Rounds
  rounds_both R f p P zero s t a b h e r = r
  rounds_both R f p P (suc k) s t a b h e r =
      let n : R (f s) (f t) = h s t a.0 b.0 r in
      go (p (f s)) (p (f t)) refl refl (e (f s) (f t) n) n (λ c d. rounds_both R f p P k (f s) (f t) (a.1 c) (b.1 d) h e n)
    where
      go : (x y : Bool) → p (f s) ≡ x → p (f t) ≡ y → p (f t) ≡ p (f s) → R (f s) (f t)
          → (p (f s) ≡ false → p (f t) ≡ false → R (rounds f p k (f s)) (rounds f p k (f t)))
          → R (cond (p (f s)) (f s) (rounds f p k (f s))) (cond (p (f t)) (f t) (rounds f p k (f t)))
      go true y u v w n later = rw (w, u) n
      go false y u v w n later = rw (w, u) (later u (w ∙ u))
