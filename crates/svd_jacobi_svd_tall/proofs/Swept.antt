-- One sweep of a run by what it finds: mark 1, settled, or on to the next; and what a mark says is no pass.
use mathlib.Core.Path.{◌≡◌, sym, ap}
use mathlib.Core.Bool.{Bool, true, false, not, true≢false}
use Prim.Native.Nat.{ℕ, ◌+◌}
use native.Mathlib.Omega.{arith}
use mathlib.Core.Logic.{⊎_elim}
use borrow.Author.Tests.{ne_eqb}
use lib.Dec.{eqb}
use lib.ListN.{length}
use Rattle.std.specs.Prelude.{Option, Some, None, is_some, ◌⊎◌}
use Rattle.leaves.specs.declared.Bad.{Bad}
use Rattle.leaves.specs.ScanLaws.{scan_class}
use Rattle.grid.specs.Real.{Vec, at}
use Rattle.answers.specs.Answers.{done, passed, marked}
use Rattle.svd_jacobi_svd_tall.specs.Sweep.{sweep}
use Rattle.svd_jacobi_svd_tall.specs.Marks.{factors, factors_bad}
use Rattle.svd_jacobi_svd_tall.specs.JacobiSvdTall.{going_after, verdict, swept}

class_found : (rows cols count : ℕ) (v : Vec) (b : Option Bad) → b ≡ factors_bad rows cols v → is_some b ≡ true → ((marked 1 count b).answer ≡ 8) ⊎ ((marked 1 count b).answer ≡ 10)
unfolding factors_bad
class_found rows cols count v (Some bad) e h = scan_class (at (factors rows cols v)) (length (factors rows cols v)) bad.index bad.class (sym e)
class_found rows cols count v None e h = absurd (true≢false (sym h))

pub mark_ends : (rows cols count : ℕ) (v : Vec) {b : Option Bad} → b ≡ factors_bad rows cols v → is_some b ≡ true → not (eqb (marked 1 count b).answer 9) ≡ true
mark_ends rows cols count v {b} e h = rw (ne_eqb (marked 1 count b).answer 9 (λ z. ⊎_elim (λ f. omega arith) (λ f. omega arith) (class_found rows cols count v b e h)))

pub mark_refuses : (rows cols count : ℕ) (v : Vec) {b : Option Bad} → b ≡ factors_bad rows cols v → is_some b ≡ true → passed (marked 1 count b) ≡ false
mark_refuses rows cols count v {b} e h = ne_eqb (marked 1 count b).answer 0 (λ z. ⊎_elim (λ f. omega arith) (λ f. omega arith) (class_found rows cols count v b e h))

module _ (rows cols before : ℕ) (w : Vec) {t : Bool} {v : Vec} {b : Option Bad} (e : (t, v) ≡ sweep rows cols w) (f : b ≡ factors_bad rows cols v) where
  by_verdict : (verdict b t (before + 1), v) ≡ swept rows cols (going_after before, w)
  unfolding swept
  by_verdict = rw f (ap (λ (x : Bool × Vec). (verdict (factors_bad rows cols x.1) x.0 (before + 1), x.1)) e)

  pub at_mark : is_some b ≡ true → (marked 1 (before + 1) b, v) ≡ swept rows cols (going_after before, w)
  unfolding verdict
  at_mark h = rw h at by_verdict

  pub settled : is_some b ≡ false → t ≡ false → (done (before + 1), v) ≡ swept rows cols (going_after before, w)
  unfolding verdict
  settled h g = rw (h, g) at by_verdict

  pub goes_on : is_some b ≡ false → t ≡ true → (going_after (before + 1), v) ≡ swept rows cols (going_after before, w)
  unfolding verdict
  goes_on h g = rw (h, g) at by_verdict
