-- A higher limit changes nothing that ended below the lower one. Laws only.
-- A run that does not end with refusal 9 is the same run at every higher limit. Assumes nothing.
use Rattle.std.specs.Prelude.{◌≡◌, refl, Bool, true, false, cond, not, ℕ, ◌≤◌, ◌<◌, eqb}
use Rattle.std.proofs.Common.{ap, ◌∙◌, arith, eqb-true}
use Rattle.grid.specs.Loop.{rounds}
use Rattle.grid.specs.LoopLaws.{rounds_limit, upto_both}
use Rattle.grid.specs.Real.{Vec}
use Rattle.eigen_tql2_pass.specs.Pass.{pass}
use Rattle.eigen_tql2.specs.LStartEnd.{State, fresh, opened, ended, closed}
use Rattle.eigen_tql2.specs.RunOverL.{iterated, stage, turn, run}
use Rattle.eigen_tql2.specs.Finish.{ql_finished}
use Rattle.eigen_tql2.specs.Tql2.{moved_up, tql2}

-- the rounds of one l
iterated_limit : (n edition k m : ℕ) (x : State) → 0 < k → k ≤ m → ended (iterated n k edition x) ≡ true → iterated n m edition x ≡ iterated n k edition x
unfolding iterated
iterated_limit n edition k m x z l = go (ended x)
  where
    go : (b : Bool) → ended (cond b x (rounds (pass n edition) ended k x)) ≡ true → cond b x (rounds (pass n edition) ended m x) ≡ cond b x (rounds (pass n edition) ended k x)
    go true e = refl
    go false e = rounds_limit (pass n edition) ended k m x z l e

-- only a run that has not ended is given a 9
closed_ended : (x : State) → ((closed x).0.stop ≡ 9 → ⊥) → ended x ≡ true
unfolding closed
closed_ended x h = go (eqb x.0.stop 0) refl
  where
    go : (b : Bool) → eqb x.0.stop 0 ≡ b → not b ≡ true
    go true e =
        let z : x.0.stop ≡ 0 = eqb-true _ _ e in
        absurd (h (rw z))
    go false e = refl

stage_limit : (n edition k m l : ℕ) (x : State) → 0 < k → k ≤ m → ((stage n k edition l x).0.stop ≡ 9 → ⊥) → stage n m edition l x ≡ stage n k edition l x
unfolding stage
stage_limit n edition k m l x z p h =
    let y : State = (opened n l x.0 x.2 x.3, x.1, x.2, x.3) in
    ap closed (iterated_limit n edition k m y z p (closed_ended (iterated n k edition y) h))

-- one l, of two runs side by side
turn_limit : (n edition k m l : ℕ) (s t : State) → 0 < k → k ≤ m → ((s.0.stop ≡ 9 → ⊥) → t ≡ s) → ((turn n k edition l s).0.stop ≡ 9 → ⊥) → turn n m edition l t ≡ turn n k edition l s
unfolding turn
turn_limit n edition k m l s t z p same = go (eqb s.0.stop 0) refl
  where
    go : (b : Bool) → eqb s.0.stop 0 ≡ b → ((cond (not b) s (stage n k edition l s)).0.stop ≡ 9 → ⊥) → turn n m edition l t ≡ cond (not b) s (stage n k edition l s)
    go true e h =
        let c : s.0.stop ≡ 0 = eqb-true _ _ e in
        ap (turn n m edition l) (same (λ q. omega arith)) ∙ rw e (stage_limit n edition k m l s z p h)
    go false e h = ap (turn n m edition l) (same h) ∙ rw e

pub run_limit : (n edition k m : ℕ) (x : State) → 0 < k → k ≤ m → ((run n k edition x).0.stop ≡ 9 → ⊥) → run n m edition x ≡ run n k edition x
unfolding run
run_limit n edition k m x z p = upto_both (λ j s t. (s.0.stop ≡ 9 → ⊥) → t ≡ s) (turn n k edition) (turn n m edition) 0 n x x (omega arith) (λ l s t a b h. turn_limit n edition k m l s t z p h) (λ h. refl)

-- a run that stops with 9 is refused with 9
finished_nine : (n : ℕ) (x : State) → x.0.stop ≡ 9 → (ql_finished n x).0.answer ≡ 9
unfolding ql_finished
finished_nine n x e = rw e

pub tql2_limit : (n edition k m : ℕ) (x : Vec × Vec × Vec) → 0 < k → k ≤ m → ((tql2 n k edition x).0.answer ≡ 9 → ⊥) → tql2 n m edition x ≡ tql2 n k edition x
unfolding tql2
tql2_limit n edition k m x z p h =
    let s : State = (fresh, x.0, x.1, moved_up n x.2) in
    ap (ql_finished n) (run_limit n edition k m s z p (λ e. h (finished_nine n (run n k edition s) e)))
