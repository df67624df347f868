use Rattle.std.proofs.Common.{◌≡◌, ◌⊎◌, ℕ, ◌+◌, ◌*◌, ◌<◌, Bool, true, false, ◌||◌, not, T, T_not, eqb, ltb, eqb→eq, ltb→lt, nltb→le, sym, ap, ◌∙◌, subst, inl, inr, true≢false, add_comm, arith}
use lib.Ieee.{Float, nan, inf, binary64, fits}
use lib.Ieee.Fits.{eq→eqb}
use lib.Ieee.Scale.{finite}
use Rattle.root.proofs.Patterns.{no_nan}
use Rattle.hypot.specs.Hypot2.{root_of_sum, hypot2}
use Rattle.hypot.specs.RoundingParts.{val}
use Rattle.hypot.specs.NearestEven.{NearestEven}
use Rattle.hypot.specs.Over.{infinity}
use Rattle.hypot.proofs.Nearest.{hypot2_nearest}
use Rattle.hypot.specs.Patterns.{bits_of, infinite_left, infinite_right, nan_left, nan_right, both_finite}
use Rattle.hypot.proofs.hypot2.Goals as goal

either : (s t : Bool) → (s || t) ≡ true → T s ⊎ T t
either true t h = inl tt
either false t h = inr (subst T (sym h) tt)

neither : (s t : Bool) → (s || t) ≡ false → T (not s) × T (not t)
neither true t h = absurd (true≢false h)
neither false t h = (tt, subst (λ (b : Bool). T (not b)) (sym h) tt)

-- of an infinity, and of a NaN beside none
infinite : (x y : Float) → T (fits binary64 x) → T (fits binary64 y) → (eqb (bits_of x) 0x7ff0_0000_0000_0000 || eqb (bits_of y) 0x7ff0_0000_0000_0000) ≡ true → inf false ≡ hypot2 x y
infinite x y f g h = elim (either _ _ h) [
  | inl e ↦ infinite_left x y f (eqb→eq (bits_of x) 0x7ff0_0000_0000_0000 e)
  | inr e ↦ infinite_right x y g (eqb→eq (bits_of y) 0x7ff0_0000_0000_0000 e)
]

apart : (a b : ℕ) → T (not (eqb a b)) → a ≡ b → ⊥
apart a b h e = T_not (eqb a b) h (eq→eqb e)

no_number : (x y : Float) → T (fits binary64 x) → T (fits binary64 y) → (eqb (bits_of x) 0x7ff0_0000_0000_0000 || eqb (bits_of y) 0x7ff0_0000_0000_0000) ≡ false
    → (ltb 0x7ff0_0000_0000_0000 (bits_of x) || ltb 0x7ff0_0000_0000_0000 (bits_of y)) ≡ true → nan ≡ hypot2 x y
no_number x y f g n h = elim (either _ _ h) [
  | inl e ↦ nan_left x y f (ltb→lt 0x7ff0_0000_0000_0000 (bits_of x) e) (apart _ _ (neither _ _ n).1)
  | inr e ↦ nan_right x y g (ltb→lt 0x7ff0_0000_0000_0000 (bits_of y) e) (apart _ _ (neither _ _ n).0)
]

-- of two finite numbers
less : (a : ℕ) → T (not (eqb a 0x7ff0_0000_0000_0000)) → T (not (ltb 0x7ff0_0000_0000_0000 a)) → a < 0x7ff0_0000_0000_0000
less a n h = omega (arith, apart a 0x7ff0_0000_0000_0000 n, nltb→le 0x7ff0_0000_0000_0000 a h)

of_patterns : (x y : Float) → T (fits binary64 x) → T (fits binary64 y) → (eqb (bits_of x) 0x7ff0_0000_0000_0000 || eqb (bits_of y) 0x7ff0_0000_0000_0000) ≡ false
    → (ltb 0x7ff0_0000_0000_0000 (bits_of x) || ltb 0x7ff0_0000_0000_0000 (bits_of y)) ≡ false → root_of_sum (val (bits_of x) * val (bits_of x) + val (bits_of y) * val (bits_of y)) ≡ hypot2 x y
of_patterns x y f g n h =
    let m = neither _ _ n in
    let k = neither _ _ h in
    sym (both_finite x y f g (less (bits_of x) m.0 k.0) (less (bits_of y) m.1 k.1))

-- the second clause follows from the first
near : (x y r : Float) → T (fits binary64 x) → T (fits binary64 y) → r ≡ hypot2 x y → T (finite x) → T (finite y) → NearestEven x y r
near x y r f g e p q = subst (λ (v : Float). NearestEven x y v) (sym e) (hypot2_nearest x y f g p q)

pub returns-then-a-b : goal.returns-then-a-b
returns-then-a-b c =
    let f = subst T (sym c.well_formed.0.1) tt in
    let g = subst T (sym c.well_formed.1.0.1) tt in
    let e = infinity ∙ infinite c.args.x c.args.y f g (rw (c.pattern-a.ensures, c.pattern-b.ensures) at c.if-a-b.true) in
    record { value = e; nearest = near c.args.x c.args.y _ f g e }

pub returns-then-a-b-2 : goal.returns-then-a-b-2
returns-then-a-b-2 c =
    let f = subst T (sym c.well_formed.0.1) tt in
    let g = subst T (sym c.well_formed.1.0.1) tt in
    let e = c.not_a_number.ensures ∙ no_number c.args.x c.args.y f g (rw (c.pattern-a.ensures, c.pattern-b.ensures) at c.if-a-b.false) (rw (c.pattern-a.ensures, c.pattern-b.ensures) at c.if-a-b-2.true) in
    record { value = e; nearest = near c.args.x c.args.y _ f g e }

pub float_from_bits-result : goal.float_from_bits-result
float_from_bits-result c = no_nan c.length.result c.length.ensures.1

pub returns-then-a-b-3 : goal.returns-then-a-b-3
returns-then-a-b-3 c =
    let f = subst T (sym c.well_formed.0.1) tt in
    let g = subst T (sym c.well_formed.1.0.1) tt in
    let r = of_patterns c.args.x c.args.y f g (rw (c.pattern-a.ensures, c.pattern-b.ensures) at c.if-a-b.false) (rw (c.pattern-a.ensures, c.pattern-b.ensures) at c.if-a-b-2.false) in
    let w = val (bits_of c.args.y) * val (bits_of c.args.y) in
    let e = (rw (c.pattern-a.ensures, c.pattern-b.ensures) at c.length.ensures.0) ∙ ap root_of_sum (add_comm w _) ∙ r in
    record { value = e; nearest = near c.args.x c.args.y _ f g e }

pub float_from_bits-result-else-a-b-3 : goal.float_from_bits-result-else-a-b-3
float_from_bits-result-else-a-b-3 c = no_nan c.length-else-a-b-3.result c.length-else-a-b-3.ensures.1

pub returns-else-a-b-3 : goal.returns-else-a-b-3
returns-else-a-b-3 c =
    let f = subst T (sym c.well_formed.0.1) tt in
    let g = subst T (sym c.well_formed.1.0.1) tt in
    let r = of_patterns c.args.x c.args.y f g (rw (c.pattern-a.ensures, c.pattern-b.ensures) at c.if-a-b.false) (rw (c.pattern-a.ensures, c.pattern-b.ensures) at c.if-a-b-2.false) in
    let e = (rw (c.pattern-a.ensures, c.pattern-b.ensures) at c.length-else-a-b-3.ensures.0) ∙ r in
    record { value = e; nearest = near c.args.x c.args.y _ f g e }
