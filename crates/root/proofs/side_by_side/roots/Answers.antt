use Rattle.std.proofs.Common.{◌≡◌, Bool, true, ◌&&◌, T, sym, subst}
use lib.Ieee.{Float, binary64, fits, of_bits, to_bits}
use lib.Ieee.Fits.{and_l, and_r}
use lib.Ieee.Positive.{positive}
use Rattle.root.specs.Root.{root}
use Rattle.root.specs.Parts.{root_bits}
use Rattle.root.specs.Nearest.{Nearest}
use Rattle.root.proofs.Cases.{no_nan}
use Rattle.root.proofs.Nearest.{root_nearest}
use Rattle.root.proofs.Rounds.{root_is}
use Rattle.root.proofs.Worked.{pattern}
use Rattle.root.proofs.side_by_side.roots.Goals as goal

both : (a b : Bool) (x y : Float) → a ≡ positive x → b ≡ positive y → (a && b) ≡ true → T (positive x) × T (positive y)
both a b x y e f h = rw (← e, ← f) (and_l a b (subst T (sym h) tt), and_r a b (subst T (sym h) tt))

by_bits : (x y : Float) (r : Float × Float) → T (fits binary64 x) → T (fits binary64 y) → T (positive x) × T (positive y)
    → r ≡ (of_bits binary64 (root_bits (to_bits binary64 x)), of_bits binary64 (root_bits (to_bits binary64 y))) → r ≡ (root x, root y)
by_bits x y r f g p e = rw (root_is x f p.0, root_is y g p.1) e

-- the second clause follows from the first
nearest : (x y : Float) (r : Float × Float) → T (fits binary64 x) → T (fits binary64 y) → r ≡ (root x, root y)
    → (r ≡ (root x, root y)) × ((T (positive x) → Nearest x r.0) × (T (positive y) → Nearest y r.1))
nearest x y r f g e = (e, (λ p. rw e (root_nearest x f p), λ p. rw e (root_nearest y g p)))

pub float_to_bits-x : goal.float_to_bits-x
float_to_bits-x c = no_nan c.args.x (both _ _ c.args.x c.args.y c.positive.ensures c.positive-2.ensures c.if-positive.true).0

pub float_to_bits-y : goal.float_to_bits-y
float_to_bits-y c = no_nan c.args.y (both _ _ c.args.x c.args.y c.positive.ensures c.positive-2.ensures c.if-positive.true).1

pub roots_of_bits-requires : goal.roots_of_bits-requires
roots_of_bits-requires c = let p = both _ _ c.args.x c.args.y c.positive.ensures c.positive-2.ensures c.if-positive.true in
    let b = pattern c.args.x (subst T (sym c.well_formed.0.1) tt) p.0 in
    let c = pattern c.args.y (subst T (sym c.well_formed.1.0.1) tt) p.1 in
    (b.0, b.1, c.0, c.1)

pub returns-then-positive : goal.returns-then-positive
returns-then-positive c = let f = subst T (sym c.well_formed.0.1) tt in
    let g = subst T (sym c.well_formed.1.0.1) tt in
    let w = nearest c.args.x c.args.y _ f g (by_bits c.args.x c.args.y _ f g (both _ _ c.args.x c.args.y c.positive.ensures c.positive-2.ensures c.if-positive.true) c.roots_of_bits.ensures) in
    record { value = w.0; nearest = w.1 }

pub returns : goal.returns
returns c =
    let w = nearest c.args.x c.args.y (c.root.result, c.root-2.result) (subst T (sym c.well_formed.0.1) tt) (subst T (sym c.well_formed.1.0.1) tt) (rw (c.root.ensures.value, c.root-2.ensures.value)) in
    record { value = w.0; nearest = w.1 }
