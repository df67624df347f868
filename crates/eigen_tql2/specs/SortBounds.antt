-- Where the least of a list is, and that it is the number there. Laws only.
use Rattle.std.specs.Prelude.{◌≡◌, refl, Bool, true, false, cond, ℕ, ◌+◌, ◌<◌}
use Rattle.std.specs.Float.Ieee.{lt}
use Rattle.grid.specs.LoopLaws.{upto_keeps}
use Rattle.grid.specs.Real.{Vec, at}
use Rattle.eigen_tql2.specs.Sort.{least_from}
use Rattle.eigen_tql2.specs.SortSteps.{better}
use Rattle.eigen_tql2.specs.declared.sort.Best.{Best}

pub least_from_below : (n i : ℕ) (d : Vec) (b : Best) → i < n → b ≡ least_from n i d → b.k < n
unfolding least_from
least_from_below n i d b h e =
    let first : Best = record { k = i; p = at d i } in
    rw e (upto_keeps (λ s t. s.k < n) (better d) (better d) (i + 1) n first first (λ j s t a l g. go (lt (at d j) s.p) j s l g) h)
  where
    go : (c : Bool) (j : ℕ) (s : Best) → j < n → s.k < n → (cond c (record { k = j; p = at d j }) s).k < n
    go true j s l g = l
    go false j s l g = g

pub least_from_is : (n i : ℕ) (d : Vec) (b : Best) → b ≡ least_from n i d → b.p ≡ at d b.k
unfolding least_from
least_from_is n i d b e =
    let first : Best = record { k = i; p = at d i } in
    rw e (upto_keeps (λ s t. s.p ≡ at d s.k) (better d) (better d) (i + 1) n first first (λ j s t a l g. go (lt (at d j) s.p) j s g) refl)
  where
    go : (c : Bool) (j : ℕ) (s : Best) → s.p ≡ at d s.k → (cond c (record { k = j; p = at d j }) s).p ≡ at d (cond c (record { k = j; p = at d j }) s).k
    go true j s g = refl
    go false j s g = g
