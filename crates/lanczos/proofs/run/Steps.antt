-- What the steps leave in work, and what the small problem then has. Laws only.
use mathlib.Core.Path.{◌≡◌, refl, sym, ap, ◌∙◌, subst}
use mathlib.Core.Bool.{Bool, true, false, cond}
use mathlib.Core.List.{◌++◌}
use Prim.Native.Nat.{ℕ, ◌+◌, ◌*◌, ◌<◌, ◌≤◌}
use native.Mathlib.Nat.{mul-le-mul}
use native.Mathlib.Omega.{arith}
use lib.ListN.{length, take, drop}
use Rattle.std.specs.Prelude.{Result, Ok, Err}
use Rattle.std.proofs.Common.{true≢false}
use Rattle.grid.specs.Real.{Vec, zeros}
use Rattle.grid.specs.Table.{part}
use Rattle.answers.specs.Answers.{done, passed}
use Rattle.answers.specs.declared.Answer.{Answer}
use Rattle.lanczos_steps.specs.StepEnd.{Went}
use Rattle.lanczos_steps.specs.declared.step_end.Next.{Next}
use Rattle.lanczos_steps.specs.declared.step_end.Next.TheVariants.{Step, End}
use Rattle.lanczos_steps.specs.Krylov.{LanczosState, steps, outcome}
use Rattle.lanczos_steps.specs.KrylovLaws.{Both, both_zeros, steps_fine, steps_few, steps_some}
use Rattle.lanczos_pairs.specs.TridiagonalEigen.{inward}
use Rattle.lanczos.specs.FitsLaws.{Room, Small}
use Rattle.lanczos.specs.Run.{paired, solved}
use Rattle.lanczos.proofs.run.Parts.{front_zeros, front_is, part_zeros, front_length}

-- ---- what comes back of the steps says how they stand

abbrev pub Run : Type 0
Run = Result (ℕ × Next) Answer

abbrev fine : Run → Bool
fine (Ok m) = true
fine (Err r) = false

abbrev begun : Run → ℕ
begun (Ok m) = m.0
begun (Err r) = 0

abbrev refusal : Run → Answer
refusal (Ok m) = done 0
refusal (Err r) = r

module _ (x : Went) where
  on_ok : {m : ℕ} {f : Next} → ◌≡◌ {A = Run} (Ok (m, f)) (cond (passed x.said) (Ok (x.dim, cond x.on Step End)) (Err x.said)) → (passed x.said ≡ true) × (m ≡ x.dim)
  on_ok {m} {f} = go (passed x.said)
    where
      go : (p : Bool) → ◌≡◌ {A = Run} (Ok (m, f)) (cond p (Ok (x.dim, cond x.on Step End)) (Err x.said)) → (p ≡ true) × (m ≡ x.dim)
      go true e = (refl, ap begun e)
      go false e = absurd (true≢false (ap fine e))

  on_err : {r : Answer} → ◌≡◌ {A = Run} (Err r) (cond (passed x.said) (Ok (x.dim, cond x.on Step End)) (Err x.said)) → (passed x.said ≡ false) × (r ≡ x.said)
  on_err {r} = go (passed x.said)
    where
      go : (p : Bool) → ◌≡◌ {A = Run} (Err r) (cond p (Ok (x.dim, cond x.on Step End)) (Err x.said)) → (p ≡ false) × (r ≡ x.said)
      go true e = absurd (true≢false (ap fine (sym e)))
      go false e = (refl, ap refusal e)

-- ---- the run

module _ (n s k limit edition : ℕ) (a v work : Vec) (clean : work ≡ zeros (length work)) (room : Room n s (length work)) where
  abbrev left : LanczosState
  left = steps n s a (zeros (s * n)) (zeros 256) (zeros 256) v

  fits : s * n ≤ length work
  fits = omega (arith, room.room)

  from_zeros : {r : Run} {q al be v' : Vec} → ◌≡◌ {A = Run × Vec × Vec × Vec × Vec} (r, q, al, be, v') (outcome (steps n s a (take (s * n) work) (zeros 256) (zeros 256) v))
      → ◌≡◌ {A = Run × Vec × Vec × Vec × Vec} (r, q, al, be, v') (outcome left)
  from_zeros {r} {q} e = e ∙ ap (λ (y : Vec). outcome (steps n s a y (zeros 256) (zeros 256) v)) (front_zeros (s * n) q work clean fits)

  pub go_stops : {r : Answer} {q al be v' : Vec} → ◌≡◌ {A = Run × Vec × Vec × Vec × Vec} (Err r, q, al, be, v') (outcome (steps n s a (take (s * n) work) (zeros 256) (zeros 256) v))
      → (x : Vec) → x ≡ zeros (k + k * n) → ◌≡◌ {A = Answer × Vec} (r, x) (solved n k limit edition left)
  unfolding solved
  go_stops e x g =
      let h = on_err left.0 (ap (λ (y : Run × Vec × Vec × Vec × Vec). y.0) (from_zeros e)) in
      rw h.0 (λ i. (h.1 i, g i))

  module _ {m : ℕ} {f : Next} {q al be v' : Vec} (is : ◌≡◌ {A = Run × Vec × Vec × Vec × Vec} (Ok (m, f), q, al, be, v') (outcome (steps n s a (take (s * n) work) (zeros 256) (zeros 256) v))) where
    known : (passed left.0.said ≡ true) × (m ≡ left.0.dim)
    known = on_ok left.0 (ap (λ (y : Run × Vec × Vec × Vec × Vec). y.0) (from_zeros is))

    few : m ≤ s
    few = omega (arith, known.1, steps_few n s a (zeros (s * n)) (zeros 256) (zeros 256) v both_zeros)

    square : m * m ≤ s * s
    square = mul-le-mul few few

    pub go_goes : {z : Answer × Vec} → length q ≡ s * n
        → z ≡ paired n k m (take (s * n) (q ++ drop (s * n) work)) (inward m limit edition al be)
        → z ≡ solved n k limit edition left
    unfolding solved
    go_goes l c =
        let e = from_zeros is in
        c
        ∙ ap (λ (y : Vec). paired n k m y (inward m limit edition al be)) (front_is (s * n) q work clean fits l)
        ∙ rw known.0 (λ i. paired n k (known.1 i) (e i).1 (inward (known.1 i) limit edition (e i).2 (e i).3))

    pub go_small : length q ≡ s * n → 0 < s → Small n s m (length (q ++ drop (s * n) work))
    go_small l o = record {
      some = omega (arith, known.1, steps_some n s a (zeros (s * n)) (zeros 256) (zeros 256) v both_zeros o);
      few = few;
      steps = room.steps;
      size = room.size;
      room = rw (front_length (s * n) q work clean fits l) (omega (arith, room.room, square));
    }

    pub go_clean : length q ≡ s * n → part (s * n) (s * n + m * m) (q ++ drop (s * n) work) ≡ zeros (m * m)
    go_clean l = part_zeros (s * n) q work clean fits (m * m) l (omega (arith, room.room, square))

    pub go_fine : Both al be
    go_fine =
        let e = from_zeros is in
        let b = steps_fine n s a (zeros (s * n)) (zeros 256) (zeros 256) v both_zeros in
        subst (λ (x : Run × Vec × Vec × Vec × Vec). Both x.2 x.3) (sym e) b
