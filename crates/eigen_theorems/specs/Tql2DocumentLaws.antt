-- Document 000's own `tql2` has one result at most (`tql2_once`). Laws only.
use Rattle.std.specs.Prelude.{◌≡◌, refl, ℕ, zero, suc}
use Rattle.std.proofs.Common.{sym, ap, ◌∙◌, subst, true≢false}
use Rattle.grid.specs.Real.{Vec}
use Rattle.eigen_tql2.specs.Sort.{sorted}
use Rattle.eigen_theorems.specs.Tql2Document.{Carried, begun, grown, body, valued, Looped, once, again, Turned, at_once, by_passes, Ran, none, more, Tql2}

-- ---- one result at most

looped_once : (n edition l m : ℕ) (x y z : Carried) → Looped n edition l m x y → Looped n edition l m x z → y ≡ z
looped_once n edition l m x y z (once p) (once q) = refl
looped_once n edition l m x y z (once p) (again q b) = absurd (true≢false (sym p ∙ q))
looped_once n edition l m x y z (again p a) (once q) = absurd (true≢false (sym q ∙ p))
looped_once n edition l m x y z (again p a) (again q b) = looped_once n edition l m (body n edition l m x) y z a b

turned_once : (n edition l : ℕ) (x y z : Carried) → Turned n edition l x y → Turned n edition l x z → y ≡ z
turned_once n edition l x y z (at_once p) (at_once q) = refl
turned_once n edition l x y z (at_once p) (by_passes q b) = absurd (true≢false (sym q ∙ p))
turned_once n edition l x y z (by_passes p a) (at_once q) = absurd (true≢false (sym p ∙ q))
turned_once n edition l x y z (by_passes p a) (by_passes q b) = ap (valued l) (looped_once n edition l _ (grown l x) _ _ a b)

ran_once : (n edition : ℕ) (x : Carried) (l : ℕ) (y z : Carried) → Ran n edition x l y → Ran n edition x l z → y ≡ z
ran_once n edition x zero y z none none = refl
ran_once n edition x (suc l) y z (more p s) (more q t) = turned_once n edition l _ y z (subst (λ (c : Carried). Turned n edition l c y) (ran_once n edition x l _ _ p q) s) t

pub tql2_once : (n edition : ℕ) (x y z : Vec × Vec × Vec) → Tql2 n edition x y → Tql2 n edition x z → y ≡ z
tql2_once n edition x y z p q =
    p.values ∙ ap (λ (c : Carried). ((sorted n (c.v, c.d)).0, (sorted n (c.v, c.d)).1, c.e)) (ran_once n edition (begun n x) n p.last q.last p.ran q.ran) ∙ sym q.values
