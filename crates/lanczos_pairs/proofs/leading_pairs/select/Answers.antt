use mathlib.Core.Path.{◌≡◌, ◌∙◌, refl, ap}
use Prim.Native.Nat.{ℕ, ◌+◌, ◌≤◌}
use native.Mathlib.Omega.{arith}
use lib.ListN.{get_or}
use mathlib.Core.List.{List}
use lib.Ieee.{Float}
use lib.ListN.{replicate}
use lib.Seq.{length-take-le}
use mathlib.Core.Bool.{Bool, true, false}
use lib.Dec.{ltb}
use borrow.Author.Tests.{ltb-true, ltb-false}
use Rattle.answers.specs.Answers.{least}
use Rattle.svd_sort_svd_descending.specs.Order.{order}
use Rattle.svd_sort_svd_descending.specs.Rank.{Below, noted, noted_below, order_noted}
use Rattle.grid.specs.Real.{Vec, at}
use Rattle.answers.specs.declared.Answer.{Answer}
use Rattle.lanczos_pairs.specs.RitzPairs.{pairs}
use Rattle.lanczos_pairs.specs.RitzPairsLaws.{pairs_same}
use Rattle.lanczos_pairs.specs.LeadingPairs.{looked, selected}
use Rattle.lanczos_pairs.proofs.leading_pairs.select.Goals as goal

named : (s : ℕ → Float) (m : ℕ) (o : List ℕ) → m ≤ 256 → o ≡ noted s m (replicate 256 0) → Below m o
named s m o p g = rw g (noted_below s m p)

both-least : (k m r : ℕ) → r ≡ least k m → (r ≤ k) × (r ≤ m)
unfolding least
both-least k m r e = go (ltb k m) refl
  where
    go : (b : Bool) → ltb k m ≡ b → (r ≤ k) × (r ≤ m)
    go true g =
        let h : r ≡ k = e ∙ rw g in
        (omega arith, omega (arith, ltb-true k m g))
    go false g =
        let h : r ≡ m = e ∙ rw g in
        (omega (arith, ltb-false k m g), omega arith)

whole : (n k m count : ℕ) (q vals vecs x y : Vec) (o : List ℕ) (f : ℕ) {z : Answer × Vec} → m ≤ 256 → f ≤ m → o ≡ noted (λ i. at vals (0 + i)) m (replicate 256 0) → f ≡ least k m
    → y ≡ pairs n k m f q vals vecs (λ t. get_or o t 0) x → z ≡ looked f count y → z ≡ selected n k m count q vals vecs x
unfolding selected
whole n k m count q vals vecs x y o f few some e g h i =
    let same : (j : ℕ) → 0 + j ≡ j = λ j. omega arith in
    i
    ∙ ap (looked f count) (h ∙ pairs_same n k m f q vals vecs (λ t. get_or o t 0) (order (at vals) m) x (λ t l.
    ap (λ (u : List ℕ). get_or u t 0) e ∙ order_noted (λ i. at vals (0 + i)) m t (omega arith) ∙ (λ j. order (λ i. at vals (same i j)) m t)))
    ∙ ap (λ (r : ℕ). looked r count (pairs n k m r q vals vecs (order (at vals) m) x)) g

pub pairs-requires : goal.pairs-requires
pairs-requires c = let b = both-least c.args.k c.args.m c.least-found.result c.least-found.ensures in (c.requires.0, b.0, b.1, c.requires.1, c.requires.2, named _ c.args.m _ c.requires.2 c.note.ensures, c.requires.3, c.requires.4, c.requires.5, length-take-le c.args.n _ c.requires.0, c.requires.6)

pub returns : goal.returns
returns c = whole _ _ c.args.m _ _ c.args.vals.now _ _ _ _ _ c.requires.2 (both-least c.args.k c.args.m c.least-found.result c.least-found.ensures).1 c.note.ensures c.least-found.ensures c.pairs.ensures c.look.ensures
