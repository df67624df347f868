-- What the checks say where they pass and where they refuse. Laws only.
use Rattle.std.specs.Prelude.{◌≡◌, refl, Bool, true, false, cond, ◌&&◌, ℕ, ◌≤◌, leb, eqb}
use Rattle.std.proofs.Common.{sym, true≢false, arith, le-leb, leb-true, eqb-true}
use Rattle.answers.specs.Answers.{done, refused}
use Rattle.answers.specs.Checks.{limit_good, lengths}

-- ---- a check that passes

pub lengths_right : (a wa b wb c wc : ℕ) → (lengths a wa b wb c wc).answer ≡ 0 → (a ≡ wa) × (b ≡ wb) × (c ≡ wc)
unfolding lengths
lengths_right a wa b wb c wc = go (eqb a wa) refl (eqb b wb) refl (eqb c wc) refl
  where
    go : (p : Bool) → eqb a wa ≡ p → (q : Bool) → eqb b wb ≡ q → (r : Bool) → eqb c wc ≡ r
        → (cond p (cond q (cond r (done 0) (refused 6 2)) (refused 6 1)) (refused 6 0)).answer ≡ 0 → (a ≡ wa) × (b ≡ wb) × (c ≡ wc)
    go true e true f true g h = (eqb-true a wa e, eqb-true b wb f, eqb-true c wc g)
    go true e true f false g h = absurd (omega arith)
    go true e false f r g h = absurd (omega arith)
    go false e q f r g h = absurd (omega arith)

pub limit_right : (limit : ℕ) → limit_good limit ≡ true → (1 ≤ limit) × (limit ≤ 60)
unfolding limit_good
limit_right limit = go (leb 1 limit) refl (leb limit 60) refl
  where
    go : (p : Bool) → leb 1 limit ≡ p → (q : Bool) → leb limit 60 ≡ q → (p && q) ≡ true → (1 ≤ limit) × (limit ≤ 60)
    go true e true f h = (leb-true 1 limit e, leb-true limit 60 f)
    go true e false f h = absurd (true≢false (sym h))
    go false e q f h = absurd (true≢false (sym h))

pub right_limit : (limit : ℕ) → 1 ≤ limit → limit ≤ 60 → limit_good limit ≡ true
unfolding limit_good
right_limit limit p q = simp (le-leb 1 limit p, le-leb limit 60 q)

-- ---- a check refuses with 6 at the most

pub lengths_few : (a wa b wb c wc : ℕ) → (lengths a wa b wb c wc).answer ≤ 6
unfolding lengths
lengths_few a wa b wb c wc = go (eqb a wa) (eqb b wb) (eqb c wc)
  where
    go : (p q r : Bool) → (cond p (cond q (cond r (done 0) (refused 6 2)) (refused 6 1)) (refused 6 0)).answer ≤ 6
    go true true true = omega arith
    go true true false = omega arith
    go true false r = omega arith
    go false q r = omega arith

-- ---- and leaves the index 0

pub lengths_index : (a wa b wb c wc : ℕ) → (lengths a wa b wb c wc).index ≡ 0
unfolding lengths
lengths_index a wa b wb c wc = go (eqb a wa) (eqb b wb) (eqb c wc)
  where
    go : (p q r : Bool) → (cond p (cond q (cond r (done 0) (refused 6 2)) (refused 6 1)) (refused 6 0)).index ≡ 0
    go true true true = refl
    go true true false = refl
    go true false r = refl
    go false q r = refl
