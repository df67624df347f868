-- What the code has at each of its returns is the outcome. Laws only.
use Rattle.std.specs.Prelude.{◌≡◌, refl, Bool, true, false, List, ℕ, zero, suc, ◌+◌, ◌≤◌, ◌<◌, leb, length, get_or, set, take}
use Rattle.std.specs.List.{list_all}
use Rattle.std.proofs.Common.{sym, ap, ◌∙◌, arith, leb-true, lt-ltb, le-ltb, ne_eqb, take_all}
use Rattle.std.proofs.lemmas.List.Folds.{list_all_more}
use Rattle.grid.specs.Loop.{every}
use Rattle.tally_definition.specs.Figures.{in_range}
use Rattle.tally_definition.specs.Tallies.{Reply, small, fit, refusal, next, outcome}
use Rattle.tally_definition.specs.TallyLaws.{Taken, taken}
use Rattle.grid.specs.LoopLaws.{every_at}
use Rattle.tally_definition.specs.declared.Tally.{Tally}

pub count_small : (t : Tally) (answer passes : ℕ) → Taken t answer passes → get_or t.counts answer 0 ≤ 65536
unfolding small
count_small t answer passes w = leb-true (get_or t.counts answer 0) 65536 (every_at (λ a. leb (get_or t.counts a 0) 65536) 16 answer w.each (omega arith))

abbrev pub reply : ℕ → Tally → Reply
reply r t = record { refusal = r; tally = t }

pub refused : (t : Tally) (answer passes r : ℕ) → r ≡ refusal t answer passes → (r ≡ 0 → ⊥) → reply r t ≡ outcome t answer passes
unfolding outcome
refused t answer passes r e n = rw (ne_eqb (refusal t answer passes) 0 (λ z. n (e ∙ z))) (ap (λ (x : ℕ). reply x t) e)

pub taken_is : (t : Tally) (answer passes : ℕ) → refusal t answer passes ≡ 0 → reply 0 (next t answer passes) ≡ outcome t answer passes
unfolding outcome
taken_is t answer passes e = rw e

abbrev pub grown : Tally → ℕ → ℕ → ℕ → ℕ → Tally
grown t answer passes top place =
    record {
      tiles = t.tiles + 1;
      counts = set t.counts answer (get_or t.counts answer 0 + 1);
      passes = t.passes + passes;
      most = top;
      first = place;
    }

pub led : (t : Tally) (answer passes r : ℕ) → r ≡ refusal t answer passes → r ≡ 0 → t.most < passes
    → reply 0 (grown t answer passes passes t.tiles) ≡ outcome t answer passes
unfolding next
led t answer passes r e z h = let w = taken_is t answer passes (sym e ∙ z) in (rw (lt-ltb t.most passes h) at w)

pub kept : (t : Tally) (answer passes r : ℕ) → r ≡ refusal t answer passes → r ≡ 0 → passes ≤ t.most
    → reply 0 (grown t answer passes t.most t.first) ≡ outcome t answer passes
unfolding next
kept t answer passes r e z h = let w = taken_is t answer passes (sym e ∙ z) in (rw (le-ltb t.most passes h) at w)

-- ---- the tests of the code

-- a test of each of the first m elements, as the chain of iterators and as the definition have it
every_taken : {X : Type 0} (p : X → Bool) (xs : List X) (d : X) (m : ℕ) → m ≤ length xs → list_all p (take m xs) ≡ every (λ a. p (get_or xs a d)) m
unfolding every
every_taken p xs d zero h = refl
every_taken p xs d (suc m) h =
    let e : suc m ≡ m + 1 = omega arith in
    ap (λ (k : ℕ). list_all p (take k xs)) e ∙ list_all_more p xs m d h ∙ rw (every_taken p xs d m (omega arith))

pub small_all : (counts : List ℕ) → length counts ≡ 16 → list_all (λ c. leb c 65536) counts ≡ small counts
unfolding small
small_all counts e = ap (list_all (λ c. leb c 65536)) (sym (take_all 16 counts (omega arith))) ∙ every_taken (λ c. leb c 65536) counts 0 16 (omega arith)

module _ (t : Tally) (answer passes : ℕ) where
  pub range_refused : in_range answer passes ≡ false → 38 ≡ refusal t answer passes
  unfolding refusal
  range_refused e = rw e

  pub fit_refused : in_range answer passes ≡ true → fit t ≡ false → 36 ≡ refusal t answer passes
  unfolding refusal
  fit_refused e f = rw (e, f)

  pub not_refused : in_range answer passes ≡ true → fit t ≡ true → 0 ≡ refusal t answer passes
  unfolding refusal
  not_refused e f = rw (e, f)

  pub room : in_range answer passes ≡ true → fit t ≡ true → Taken t answer passes
  room e f = taken t answer passes (sym (not_refused e f))
