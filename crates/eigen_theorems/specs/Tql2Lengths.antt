-- Document 000's loops leave v and d as long as they were, and its whole `tql2` v. Laws only.
use Rattle.std.specs.Prelude.{◌≡◌, refl, Bool, true, false, cond, ℕ, zero, suc, ◌+◌, ◌-◌, eqb, Float, length}
use Rattle.std.proofs.Common.{ap, ◌∙◌, length-set}
use Rattle.grid.specs.Loop.{drops, fall}
use Rattle.grid.specs.Real.{Vec}
use Rattle.grid.specs.CellLaws.{upto_long}
use Rattle.eigen_tql2_pass.specs.Transform.{shift, lessened, rotated, spin, spins, landed, transformed}
use Rattle.eigen_tql2_pass.specs.TransformSteps.{less_step, rot_step}
use Rattle.eigen_tql2_pass.specs.declared.ql_transformation.Spin.{Spin}
use Rattle.eigen_tql2.specs.Sort.{least_from, swapped, sort_step, sorted}
use Rattle.eigen_tql2.specs.SortSteps.{swap_step}
use Rattle.eigen_theorems.specs.Tql2Document.{Carried, body, Looped, once, again, Turned, at_once, by_passes, Ran, none, more, Tql2}

rotated_long : (n i : ℕ) (c s : Float) (v : Vec) → length (rotated n i c s v) ≡ length v
unfolding rotated
rotated_long n i c s v = upto_long (λ v. v) (rot_step n i c s) 0 n v (λ j u. simp length-set)

lessened_long : (n l : ℕ) (h : Float) (d : Vec) → length (lessened n l h d) ≡ length d
unfolding lessened
lessened_long n l h d = upto_long (λ v. v) (less_step h) (l + 2) n d (λ j u. simp length-set)

pub record Long (a b c d : Vec) : Type 0 where
  pub vectors : length c ≡ length a
  pub values : length d ≡ length b

drops_long : (n edition l k : ℕ) (x : Spin × Vec × Vec × Vec) → Long x.1 x.2 (drops (spin n edition) l k x).1 (drops (spin n edition) l k x).2
unfolding drops spin
drops_long n edition l zero x = record { vectors = refl; values = refl }
drops_long n edition l (suc k) x =
    let w = drops_long n edition l k (spin n edition (l + k) x) in
    record { vectors = w.vectors ∙ rotated_long n (l + k) _ _ x.1; values = w.values ∙ simp length-set }

pub body_long : (n edition l m : ℕ) (x : Carried) → Long x.v x.d (body n edition l m x).v (body n edition l m x).d
unfolding transformed spins fall landed shift
body_long n edition l m x =
    let w = drops_long n edition l (m - l) _ in
    record { vectors = w.vectors; values = simp length-set (w.values ∙ lessened_long n l _ _ ∙ simp length-set) }

looped_long : (n edition l m : ℕ) {x y : Carried} → Looped n edition l m x y → Long x.v x.d y.v y.d
looped_long n edition l m {x} (once p) = body_long n edition l m x
looped_long n edition l m {x} (again p a) =
    let w = looped_long n edition l m a in
    let u = body_long n edition l m x in
    record { vectors = w.vectors ∙ u.vectors; values = w.values ∙ u.values }

turned_long : (n edition l : ℕ) {x y : Carried} → Turned n edition l x y → Long x.v x.d y.v y.d
turned_long n edition l (at_once p) = record { vectors = refl; values = simp length-set }
turned_long n edition l (by_passes p a) =
    let w = looped_long n edition l _ a in
    record { vectors = w.vectors; values = simp length-set w.values }

pub ran_long : (n edition : ℕ) {x : Carried} {l : ℕ} {y : Carried} → Ran n edition x l y → Long x.v x.d y.v y.d
ran_long n edition none = record { vectors = refl; values = refl }
ran_long n edition (more {l = l} p t) =
    let w = turned_long n edition l t in
    let u = ran_long n edition p in
    record { vectors = w.vectors ∙ u.vectors; values = w.values ∙ u.values }

-- ---- the sort

swapped_square : (n i k : ℕ) (v : Vec) → length (swapped n i k v) ≡ length v
unfolding swapped
swapped_square n i k v = upto_long (λ v. v) (swap_step n i k) 0 n v (λ j u. simp length-set)

sort_square : (n i : ℕ) (x : Vec × Vec) → length (sort_step n i x).0 ≡ length x.0
unfolding sort_step
sort_square n i x = go (eqb (least_from n i x.1).k i) (swapped n i _ x.0, _) (swapped_square n i _ x.0)
  where
    go : (b : Bool) (y : Vec × Vec) → length y.0 ≡ length x.0 → length (cond b x y).0 ≡ length x.0
    go true y h = refl
    go false y h = h

sorted_square : (n : ℕ) (x : Vec × Vec) → length (sorted n x).0 ≡ length x.0
unfolding sorted
sorted_square n x = upto_long (λ (x : Vec × Vec). x.0) (sort_step n) 0 (n - 1) x (λ i u. sort_square n i u)

pub tql2_square : (n edition : ℕ) (x y : Vec × Vec × Vec) → Tql2 n edition x y → length y.0 ≡ length x.0
tql2_square n edition x y p = ap (λ (z : Vec × Vec × Vec). length z.0) p.values ∙ sorted_square n (p.last.v, p.last.d) ∙ (ran_long n edition p.ran).vectors
